use Rattle.std.proofs.Common.{◌++◌, List, ℕ, ap₂, length}
use Rattle.std.proofs.lemmas.List.{drop-replicate}
use Rattle.tlv_value.proofs.units.block_of.Goals as goal

pub returns : goal.returns
returns c =
    ap₂ (λ (k l : List ℕ). k ++ l) c.copy_from_slice.ensures.after (drop-replicate (length c.args.row.now) 64 32)
