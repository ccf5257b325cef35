-- Blocks of base64 and of PEM.
use Rattle.std.proofs.Common.{◌≡◌, ◌⊎◌, inl, inr, ℕ, zero, suc, ◌==◌, ◌<◌, Bool, true, ◌&&◌, List, [], ◌∷◌, ◌++◌, length}
use Rattle.std.proofs.Common.{Some, None, refl, sym, ap, ◌∙◌, arith, codes, drop, slice_index, take}
use Rattle.std.specs.List.{list_all}
use Rattle.std.specs.Prelude.{not}
use Rattle.std.specs.Str.{bytes_eq}
use Rattle.std.proofs.lemmas.Bool.{and_parts}
use Rattle.std.proofs.lemmas.List.{drop_all, drop_at, length-append, take_at}
use Rattle.std.proofs.lemmas.Slice.Eq.{bytes_eq-Decides}
use Rattle.base64.proofs.OnLiterals.{base64_on_literals}
use Rattle.memchr.proofs.lemmas.MatchLemmas.{OccursAt-from_part}
use Rattle.memchr.specs.Find.{OccursAt}
use Rattle.tlv_rows.proofs.Words.Base64.{all_base64, unpadded}
use Rattle.tlv_text.specs.Blocks.{ArePemBlocks, IsBase64Block, IsPemBlock, only_block}
use Rattle.tlv_text.specs.Pem.{BeginsBlock, HasNoBlock, IsFirstBlock, begin_marker, dashes}
use Rattle.tlv_text.specs.declared.base64_text.Alphabet.TheVariants.{Standard, UrlSafe}
use Rattle.tlv_text.specs.declared.block.BlockState.TheVariants.{Encrypted, Refused, Whole}

row-base64 : IsBase64Block (codes "_-_-") (only_block (0xff ∷ 0xef ∷ 0xfe ∷ []) Whole)
unfolding base64_on_literals
row-base64 = IsBase64Block.base64 _ None (all_base64 UrlSafe _ _ refl refl refl)

row-base64_refused : IsBase64Block (codes "MAMC\n*") (only_block (0x30 ∷ 3 ∷ 2 ∷ []) (Refused 2))
unfolding base64_on_literals
row-base64_refused = IsBase64Block.base64 _ (Some 5) (unpadded Standard _ _ refl refl refl)

row-encrypted : IsPemBlock (codes "\n-----BEGIN A-----\nProc-Type: 4,ENCRYPTED\n\nMAA=") 1 (codes "A")
    (codes "\nProc-Type: 4,ENCRYPTED\n\nMAA=") []
    (record { line = 2; label = codes "A"; octets = []; state = Encrypted })
row-encrypted = IsPemBlock.encrypted refl

-- ---- two blocks of PEM

no-hyphen-at : (body rest : List ℕ) (k : ℕ) → k < length body → list_all (λ x. not (x == 45)) body ≡ true
    → slice_index (body ++ rest) k ≡ 45 → ⊥
no-hyphen-at [] rest k less none e = absurd (omega arith)
no-hyphen-at (x ∷ body) rest zero less none e =
    let other = rw e at (and_parts (not (x == 45)) _ none).0 in cc other
no-hyphen-at (x ∷ body) rest (suc k) less none e =
    no-hyphen-at body rest k (omega (arith, less)) (and_parts (not (x == 45)) _ none).1 e

no-dashes : (body rest : List ℕ) → list_all (λ x. not (x == 45)) body ≡ true → (k : ℕ) → k < length body
    → OccursAt (body ++ rest) dashes k → ⊥
no-dashes body rest none k less occurs =
    no-hyphen-at body rest k less none
    (ap (slice_index (body ++ rest)) (omega arith) ∙ occurs.reads 0 (omega arith))

-- no marker begins at the first n places
no_marker : ℕ → List ℕ → Bool
no_marker zero text = true
no_marker (suc n) text = not (bytes_eq (take 11 text) begin_marker) && no_marker n (drop 1 text)

marker-begins : (text label after : List ℕ) → BeginsBlock text label after
    → bytes_eq (take 11 text) begin_marker ≡ true
marker-begins text label after b =
    (bytes_eq-Decides (take 11 text) begin_marker).1
    (ap (take 11) b.spelled ∙ take_at begin_marker (label ++ (dashes ++ after)) 11 refl)

none-before : (n : ℕ) (text : List ℕ) → no_marker n text ≡ true → (k : ℕ) → k < n → (label after : List ℕ)
    → BeginsBlock (drop k text) label after → ⊥
unfolding no_marker
none-before zero text none k less label after b = absurd (omega arith)
none-before (suc n) text none zero less label after b =
    let other =
    rw (marker-begins text label after b) at (and_parts (not (bytes_eq (take 11 text) begin_marker)) _ none).0 in
    cc other
none-before (suc n) [] none (suc k) less label after b =
    let e = sym (drop_all {X = ℕ} (suc k) [] (omega arith)) ∙ b.spelled in cc e
none-before (suc n) (x ∷ text) none (suc k) less label after b =
    none-before n text (and_parts (not (bytes_eq (take 11 (x ∷ text)) begin_marker)) _ none).1 k (omega (arith, less))
    label after b

no-block-in_none : HasNoBlock []
no-block-in_none k label after b = let e = sym (drop_all {X = ℕ} k [] (omega arith)) ∙ b.spelled in cc e

first-of : (part : List ℕ) (start : ℕ) (label body rest : List ℕ) → BeginsBlock (drop start part) label (body ++ rest)
    → list_all (λ x. not (x == 45)) body ≡ true → (rest ≡ []) ⊎ OccursAt (body ++ rest) dashes (length body)
    → no_marker start part ≡ true → IsFirstBlock part start label body rest
first-of part start label body rest begins none end sooner = record {
  after = body ++ rest;
  begins = begins;
  ends = record { spelled = refl; no_sooner = no-dashes body rest none; end = end };
  no_sooner = none-before start part sooner;
}

-- five hyphens come next
dashes-next : (body more : List ℕ) → OccursAt (body ++ (dashes ++ more)) dashes (length body)
dashes-next body more =
    OccursAt-from_part (body ++ (dashes ++ more)) dashes (length body)
    (omega (arith, length-append body (dashes ++ more), length-append dashes more))
    (ap (take 5) (drop_at body (dashes ++ more) (length body) refl) ∙ take_at dashes more 5 refl)

two_blocks : List ℕ
two_blocks = codes "x\n-----BEGIN A-----\nMAA=\n-----END A-----\n-----BEGIN B-----\nMAMC\n*"

row-two_blocks : ArePemBlocks two_blocks two_blocks (
    record { line = 2; label = codes "A"; octets = 0x30 ∷ 0 ∷ []; state = Whole }
    ∷ record { line = 5; label = codes "B"; octets = 0x30 ∷ 3 ∷ 2 ∷ []; state = Refused 7 }
    ∷ []
    )
unfolding two_blocks no_marker base64_on_literals
row-two_blocks =
    ArePemBlocks.next 2 (codes "A") (codes "\nMAA=\n") (codes "-----END A-----\n-----BEGIN B-----\nMAMC\n*")
    (first-of _ 2 _ _ _ (record { spelled = refl; has_label = refl }) refl (inr (dashes-next (codes "\nMAA=\n") (codes "END A-----\n-----BEGIN B-----\nMAMC\n*"))) refl)
    (IsPemBlock.decoded _ None refl (all_base64 Standard _ _ refl refl refl))
    (ArePemBlocks.next 16 (codes "B") (codes "\nMAMC\n*") []
    (first-of _ 16 _ _ _ (record { spelled = refl; has_label = refl }) refl (inl refl) refl)
    (IsPemBlock.decoded _ (Some 6) refl (unpadded Standard _ _ refl refl refl))
    (ArePemBlocks.no_more no-block-in_none))
