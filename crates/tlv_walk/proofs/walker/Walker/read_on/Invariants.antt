use Rattle.std.proofs.Common.{◌≡◌, ◌+◌, ◌≤◌, false, length}
use Rattle.tlv_walk.specs.Stack.{IsWithin}
use Rattle.tlv_walk.specs.Private.Stack.{room_to}
use Rattle.tlv_walk.proofs.WalkerLemmas.HeaderSteps.{CanGive, HasTaken}
use Rattle.tlv_walk.proofs.walker.Walker.read_on.Given as goal

abbrev pub invariant-loop-piece : goal.invariant-loop-piece
invariant-loop-piece l = record {
  same : l.self ≡ l.fn.self;
  unfinished : l.reader.done ≡ false;
  start : l.reader.offset ≡ l.fn.reader.offset;
  end : l.reader.offset + length l.reader.octets ≡ l.offset;
  grown : l.fn.self.offset ≤ l.offset;
  taken : l.offset + length l.piece.now ≡ l.fn.self.offset + length l.fn.piece.now;
  within : IsWithin l.bound l.offset;
  read : HasTaken l.fn.reader l.reader l.fn.piece.now l.piece.now;
  first : CanGive l.reader.octets l.piece.now (room_to l.bound l.offset);
}

abbrev pub decreases-loop-piece : goal.decreases-loop-piece
decreases-loop-piece l = length l.piece.now
