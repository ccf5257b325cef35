use Rattle.std.proofs.Common.{rules}
use Rattle.tlv_walk.proofs.walker.Walker.fits_there.Goals as goal

pub returns-clause-shallow : goal.returns-clause-shallow
returns-clause-shallow c = search rules
