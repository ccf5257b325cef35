-- Blocks that follow one another, and their places.
use Rattle.std.proofs.Common.{◌≡◌, ℕ, suc, ◌+◌, ◌-◌, ◌==◌, ◌<◌, ◌≤◌, Bool, true, false, List, [], ◌∷◌, ◌++◌}
use Rattle.std.proofs.Common.{Option, Some, None, Result, Ok, Err, refl, sym, ap, ◌∙◌, arith, drop, length, lt-ltb}
use Rattle.std.proofs.Common.{inl, inr, le-ltb, map, nat_le, subst}
use Rattle.std.specs.Prelude.{nat_lt}
use Rattle.std.proofs.lemmas.Bool.Decides.{nat_tests}
use Rattle.std.specs.List.{list_any}
use Rattle.std.specs.Prelude.{IfErr, if◌then◌else◌, is_some}
use Rattle.std.specs.Result.{IsErrAnd}
use Rattle.std.proofs.lemmas.Bool.{and_parts, cases_Bool, leb-true}
use Rattle.std.proofs.lemmas.List.{append-nil, append_assoc, length-append, length-drop, map-append}
use Rattle.tlv_text.specs.Base64.{ReadsBase64, is_symbol}
use Rattle.tlv_text.proofs.BodyLemmas.{true-not}
use Rattle.memchr.specs.Find.{Passes, is_byte2}
use Rattle.tlv_text.specs.Blocks.{AreBlocks, ArePemBlocks, AreRunBlocks, BlockValue, IsBase64Block, IsBlocksFault}
use Rattle.tlv_text.specs.Blocks.{IsPemBlock, alphabet_of, block_value, dump_block, hex_block, hex_read}
use Rattle.tlv_text.specs.Pairs.{pairs_read}
use Rattle.tlv_text.proofs.TokenPlaceLemmas.{no-token-in_pairs}
use Rattle.tlv_text.specs.Blocks.{are_too_long, is_url_symbol, line_at, only_block}
use Rattle.tlv_text.specs.Blocks.{numbers_block, or_absent, place_in_text, state_at_place, state_with_end}
use Rattle.tlv_text.specs.Dump.{IsFault, dump_read, text_limit}
use Rattle.tlv_text.specs.Pem.{HasNoBlock, IsFirstBlock, begin_marker, dashes}
use Rattle.tlv_text.specs.PemBody.{after_line, base64_part, has_more_than_headers, is_encrypted, is_escaped_line_feed}
use Rattle.tlv_text.specs.PemBody.{size_of_headers}
use Rattle.tlv_text.specs.TextRead.{refused_at}
use Rattle.tlv_text.specs.Tokens.{token_count}
use Rattle.tlv_text.specs.Private.BlockSteps.{IsRefusedWithin}
use Rattle.tlv_text.specs.Runs.{HasNoRun, IsFirstRun, break_size, leading_symbols, stretch_after, stretch_size}
use Rattle.tlv_text.specs.declared.base64_text.Alphabet.{Alphabet}
use Rattle.tlv_text.specs.declared.base64_text.Alphabet.TheVariants.{Standard}
use Rattle.tlv_text.specs.declared.block.Block.{Block}
use Rattle.tlv_text.specs.declared.block.BlockState.{BlockState}
use Rattle.tlv_text.specs.declared.block.BlockState.TheVariants.{Encrypted}
use Rattle.tlv_text.specs.declared.block.Form.{Form}
use Rattle.tlv_text.specs.declared.block.Form.TheVariants.{Base64, Dump, Hex, Numbers, Pem, Runs}
use Rattle.tlv_text.specs.declared.text_fault.TextFault.{TextFault}
use Rattle.tlv_text.specs.declared.text_fault.TextFault.TheVariants.{Memory, TooLong}

-- ---- where base64 is refused

pub refused-within : (alphabet : Alphabet) (text octets : List ℕ) (refused : Option ℕ)
    → ReadsBase64 alphabet text octets refused → IsRefusedWithin (length text) refused
refused-within alphabet text octets refused (ReadsBase64.whole is) = tt
refused-within alphabet text octets refused (ReadsBase64.refused none are of) = omega arith

pub within-more : (m n : ℕ) (refused : Option ℕ) → m ≤ n → IsRefusedWithin m refused → IsRefusedWithin n refused
within-more m n None less within = tt
within-more m n (Some place) less within = omega (arith, within)

-- ---- hexadecimal

-- a text that is pairs to its end has no token
pub hex-of_pairs : (text : List ℕ) (refused : Option ℕ) → refused ≡ refused_at text (pairs_read text).rest
    → is_some refused ≡ false → hex_read text ≡ pairs_read text
hex-of_pairs text refused e whole =
    rw (no-token-in_pairs 32 text (nothing-refused (pairs_read text).rest (rw e at whole))) refl
  where
    nothing-refused : (rest : List ℕ) → is_some (refused_at text rest) ≡ false → rest ≡ []
    nothing-refused [] whole = refl
    nothing-refused (x ∷ rest) whole = absurd (cc whole)

pub hex-without_tokens : (text : List ℕ) → (2 ≤ token_count text → ⊥) → hex_read text ≡ pairs_read text
hex-without_tokens text none =
    elim (cases_Bool (nat_le 2 (token_count text))) [
      | inl two ↦ absurd (none (leb-true 2 (token_count text) two))
      | inr few ↦ rw few refl
    ]

-- ---- PEM

after-few : (text : List ℕ) → length (after_line text) ≤ length text
after-few [] = omega arith
after-few (x ∷ []) = omega arith
after-few (x ∷ y ∷ text) = cases (x == 10) (is_escaped_line_feed x y) (after-few (y ∷ text))
  where
    cases : (feed escaped : Bool) → length (after_line (y ∷ text)) ≤ length (y ∷ text)
        → length (if feed then y ∷ text else (if escaped then text else after_line (y ∷ text)))
        ≤ length (x ∷ y ∷ text)
    cases true escaped less = omega arith
    cases false true less = omega arith
    cases false false less = omega (arith, less)

pub base64-part-le : (body : List ℕ) → length (base64_part body) ≤ length body
base64-part-le body = cases (has_more_than_headers body)
  where
    cases : (headers : Bool)
        → length (if headers then drop (size_of_headers body) (after_line body) else body) ≤ length body
    cases true = omega (arith, after-few body, length-drop (size_of_headers body) (after_line body))
    cases false = omega arith

-- a block takes characters of its marker and its label, its body and what comes after it are all that is left
pub record BlockFits (part : List ℕ) (start : ℕ) (label body rest : List ℕ) : Type 0 where
  pub label_few : length label ≤ 64
  pub within : start + length body + length rest < length part

pub block-fits : (part : List ℕ) (start : ℕ) (label body rest : List ℕ) → IsFirstBlock part start label body rest
    → BlockFits part start label body rest
block-fits part start label body rest first = record {
  label_few = leb-true (length label) 64 (and_parts _ (nat_le (length label) 64) first.begins.has_label).1;
  within =
      omega (
        arith,
        ap length first.begins.spelled,
        ap length first.ends.spelled,
        length-drop start part,
        length-append begin_marker (label ++ (dashes ++ first.after)),
        length-append label (dashes ++ first.after),
        length-append dashes first.after,
        length-append body rest,
      );
}

pub pem-encrypted : (text : List ℕ) (place line : ℕ) (label named body rest octets : List ℕ)
    → line ≡ line_at text place → named ≡ label → octets ≡ [] → is_encrypted body ≡ true
    → IsPemBlock text place label body rest
    (record { line = line; label = named; octets = octets; state = Encrypted })
pem-encrypted text place line label named body rest octets at names none is =
    rw (at, names, none) (IsPemBlock.encrypted is)

pub pem-decoded : (text : List ℕ) (place line : ℕ) (label named body rest base64 octets : List ℕ)
    (refused : Option ℕ) (state end : BlockState)
    → line ≡ line_at text place → named ≡ label
    → (is_encrypted body ≡ false) × (base64 ≡ base64_part body) → ReadsBase64 Standard base64 octets refused
    → state ≡ state_at_place text (length text - (length base64 + length rest)) refused
    → end ≡ state_with_end rest state
    → IsPemBlock text place label body rest
    (record { line = line; label = named; octets = octets; state = end })
pem-decoded text place line label named body rest base64 octets refused state end at names of reads is ends =
    rw (at, names, ends, is, of.1)
    (IsPemBlock.decoded octets refused of.0
    (subst (λ (part : List ℕ). ReadsBase64 Standard part octets refused) of.1 reads))

-- what is found of blocks so far comes before what is left
abbrev pub PemBefore : List ℕ → List ℕ → List BlockValue → Type 0
PemBefore text rest found = (bs : List BlockValue) → ArePemBlocks text rest bs → ArePemBlocks text text (found ++ bs)

map-push : (blocks : List Block) (b : Block) (bs : List BlockValue)
    → map block_value (blocks ++ b ∷ []) ++ bs ≡ map block_value blocks ++ (block_value b ∷ bs)
map-push blocks b bs =
    ap (λ (l : List BlockValue). l ++ bs) (map-append block_value blocks (b ∷ []))
    ∙ append_assoc (map block_value blocks) (block_value b ∷ []) bs

pub pem-next : (text part : List ℕ) (start place : ℕ) (label body rest : List ℕ) (blocks all : List Block) (b : Block)
    → IsFirstBlock part start label body rest → place ≡ place_in_text text part + start
    → IsPemBlock text place label body rest (block_value b) → all ≡ blocks ++ b ∷ []
    → PemBefore text part (map block_value blocks) → PemBefore text rest (map block_value all)
pem-next text part start place label body rest blocks all b first at is push before bs are =
    subst (λ (l : List BlockValue). ArePemBlocks text text l)
    (sym (ap (λ (l : List Block). map block_value l ++ bs) push ∙ map-push blocks b bs))
    (before (block_value b ∷ bs)
    (ArePemBlocks.next start label body rest first
    (subst (λ (n : ℕ). IsPemBlock text n label body rest (block_value b)) at is) are))

pub pem-last : (text part : List ℕ) (blocks : List Block) → HasNoBlock part
    → PemBefore text part (map block_value blocks) → ArePemBlocks text text (map block_value blocks)
pem-last text part blocks none before =
    subst (λ (l : List BlockValue). ArePemBlocks text text l) (append-nil (map block_value blocks))
    (before [] (ArePemBlocks.no_more none))

-- ---- runs

-- a run has a character
some-size : (text : List ℕ) → 40 ≤ leading_symbols text → 0 < stretch_size text
some-size [] long = absurd (omega (arith, long))
some-size (x ∷ text) long = cases (is_symbol Standard x) long
  where
    cases : (b : Bool) → 40 ≤ (if b then 1 + leading_symbols text else 0)
        → 0 < (if b then 1 + stretch_after (break_size text) text else 0)
    cases true long = omega arith
    cases false long = absurd (omega (arith, long))

pub run-fits : (part : List ℕ) (start : ℕ) (run rest : List ℕ) → IsFirstRun part start run rest
    → start + length run + length rest ≤ length part
run-fits part start run rest first =
    omega (
      arith,
      ap length first.spelled,
      length-drop start part,
      length-append run rest,
      first.size,
      some-size (drop start part) first.long,
    )

pub run-some : (part : List ℕ) (start : ℕ) (run rest : List ℕ) → IsFirstRun part start run rest → 0 < length run
run-some part start run rest first =
    omega (arith, first.size, some-size (drop start part) first.long)

abbrev pub RunsBefore : List ℕ → List ℕ → List BlockValue → Type 0
RunsBefore text rest found = (bs : List BlockValue) → AreRunBlocks text rest bs → AreRunBlocks text text (found ++ bs)

-- a block of a run that begins at a place
abbrev pub run_block : List ℕ → ℕ → List ℕ → Option ℕ → BlockValue
run_block text place octets refused = record {
  line = line_at text place;
  label = [];
  octets = octets;
  state = state_at_place text place refused;
}

pub run-value : (text : List ℕ) (place line : ℕ) (label octets : List ℕ) (refused : Option ℕ) (state : BlockState)
    → line ≡ line_at text place → label ≡ [] → state ≡ state_at_place text place refused
    → record { line = line; label = label; octets = octets; state = state } ≡ run_block text place octets refused
run-value text place line label octets refused state at none is = rw (at, none, is) refl

pub run-next : (text part : List ℕ) (start place : ℕ) (run rest octets : List ℕ) (refused : Option ℕ)
    (blocks all : List Block) (b : Block)
    → IsFirstRun part start run rest → place ≡ place_in_text text part + start
    → ReadsBase64 Standard run octets refused → block_value b ≡ run_block text place octets refused
    → all ≡ blocks ++ b ∷ []
    → RunsBefore text part (map block_value blocks) → RunsBefore text rest (map block_value all)
run-next text part start place run rest octets refused blocks all b first at reads is push before bs are =
    subst (λ (l : List BlockValue). AreRunBlocks text text l)
    (sym (ap (λ (l : List Block). map block_value l ++ bs) push ∙ map-push blocks b bs))
    (before (block_value b ∷ bs)
    (subst (λ (v : BlockValue). AreRunBlocks text part (v ∷ bs))
    (sym (is ∙ ap (λ (n : ℕ). run_block text n octets refused) at))
    (AreRunBlocks.next start run rest octets refused first reads are)))

pub run-last : (text part : List ℕ) (blocks : List Block) → HasNoRun part
    → RunsBefore text part (map block_value blocks) → AreRunBlocks text text (map block_value blocks)
run-last text part blocks none before =
    subst (λ (l : List BlockValue). AreRunBlocks text text l) (append-nil (map block_value blocks))
    (before [] (AreRunBlocks.no_more none))

-- ---- one block

-- how many characters come before what is left is within a text
pub rest-within : (text rest : List ℕ) (refused : Option ℕ) → refused ≡ refused_at text rest
    → IsRefusedWithin (length text) refused
rest-within text [] refused is = subst (IsRefusedWithin (length text)) (sym is) tt
rest-within text (x ∷ rest) refused is = subst (IsRefusedWithin (length text)) (sym is) (omega arith)

none-of_url : (text : List ℕ) → ((k : ℕ) → 0 ≤ k → k < length text → Passes (is_byte2 45 95) text k → ⊥)
    → list_any is_url_symbol text ≡ false
none-of_url [] none = refl
none-of_url (x ∷ text) none =
    rw (
      true-not (is_url_symbol x) (none 0 (omega arith) (omega arith)),
      none-of_url text (λ k from less. none (suc k) (omega arith) (omega (arith, less))),
    ) refl

pub standard-without : (text : List ℕ) → ((k : ℕ) → 0 ≤ k → k < length text → Passes (is_byte2 45 95) text k → ⊥)
    → Standard ≡ alphabet_of text
standard-without text none = rw (none-of_url text none) refl

pub base64-found : (text : List ℕ) (alphabet : Alphabet) (octets : List ℕ) (refused : Option ℕ) (b : BlockValue)
    → alphabet ≡ alphabet_of text → ReadsBase64 alphabet text octets refused
    → b ≡ only_block octets (state_at_place text 0 refused) → IsBase64Block text b
base64-found text alphabet octets refused b of reads is =
    subst (IsBase64Block text) (sym is)
    (IsBase64Block.base64 octets refused (subst (λ (a : Alphabet). ReadsBase64 a text octets refused) of reads))

-- ---- all blocks

-- the octets of blocks that are counted down from a limit
pub counted-down : (left count rest : ℕ) → count ≤ left → nat_lt left (count + rest) ≡ nat_lt (left - count) rest
counted-down left count rest within = grind (arith, nat_tests)

pub counted-over : (left count rest : ℕ) → left < count → nat_lt left (count + rest) ≡ true
counted-over left count rest more = lt-ltb left (count + rest) (omega (arith, more))

pub too-long : (text : List ℕ) (form : Form) (blocks all : List Block) → AreBlocks text form (map block_value blocks)
    → all ≡ blocks → true ≡ are_too_long text (map block_value all) → IsBlocksFault text form TooLong
too-long text form blocks all are same long =
    IsBlocksFault.too_long (map block_value blocks) are
    (ap (λ (l : List Block). are_too_long text (map block_value l)) (sym same) ∙ sym long)

pub memory-fault : {T : Type 0} (text : List ℕ) (form : Form) (r : Result T TextFault) → IsErrAnd r (λ f. f ≡ Memory)
    → IfErr r (IsBlocksFault text form)
memory-fault text form (Ok x) is = absurd is
memory-fault text form (Err f) is = subst (IsBlocksFault text form) (sym is) IsBlocksFault.no_memory

-- a text of one block
pub one-fits : (text octets : List ℕ) → length octets ≤ text_limit text
    → nat_lt (text_limit text) (length octets + 0) ≡ false
one-fits text octets short = le-ltb (text_limit text) (length octets + 0) (omega (arith, short))

pub one-too_long : (text octets : List ℕ) → text_limit text < length octets
    → nat_lt (text_limit text) (length octets + 0) ≡ true
one-too_long text octets long = lt-ltb (text_limit text) (length octets + 0) (omega (arith, long))

-- a dump with too many octets is a block with too many
pub dump-fault : (text : List ℕ) (form : Form) (f g : TextFault) → form ≡ Dump → f ≡ g → IsFault text g
    → IsBlocksFault text form f
dump-fault text form f Memory of same is = subst (IsBlocksFault text form) (sym same) IsBlocksFault.no_memory
dump-fault text form f TooLong of same over =
    subst (IsBlocksFault text form) (sym same)
    (IsBlocksFault.too_long (dump_block text ∷ [])
    (subst (λ (n : Form). AreBlocks text n (dump_block text ∷ [])) (sym of) AreBlocks.dump)
    (one-too_long text (dump_read text).octets over))

pub dump-refused : {T : Type 0} (text : List ℕ) (form : Form) (g : TextFault) (r : Result T TextFault) → form ≡ Dump
    → IsErrAnd r (λ f. f ≡ g) → IsFault text g → IfErr r (IsBlocksFault text form)
dump-refused text form g (Ok x) of is fault = absurd is
dump-refused text form g (Err f) of is fault = dump-fault text form f g of is fault

pub pem-all : (text : List ℕ) (form : Form) (all bs : List BlockValue) → form ≡ Pem → ArePemBlocks text text bs
    → all ≡ or_absent bs → AreBlocks text form all
pem-all text form all bs of are is = rw (of, is) (AreBlocks.pem are)

pub runs-all : (text : List ℕ) (form : Form) (all bs : List BlockValue) → form ≡ Runs → AreRunBlocks text text bs
    → all ≡ or_absent bs → AreBlocks text form all
runs-all text form all bs of are is = rw (of, is) (AreBlocks.runs are)

pub base64-all : (text : List ℕ) (form : Form) (all : List BlockValue) (b : BlockValue) → form ≡ Base64
    → IsBase64Block text b → all ≡ b ∷ [] → AreBlocks text form all
base64-all text form all b of are is = rw (of, is) (AreBlocks.base64 are)

pub dump-all : (text : List ℕ) (form : Form) (all : List BlockValue) (b : BlockValue) → form ≡ Dump
    → b ≡ dump_block text → all ≡ b ∷ [] → AreBlocks text form all
dump-all text form all b of one is = rw (of, is, one) AreBlocks.dump

pub hex-all : (text : List ℕ) (form : Form) (all : List BlockValue) (b : BlockValue) → form ≡ Hex
    → b ≡ hex_block text → all ≡ b ∷ [] → AreBlocks text form all
hex-all text form all b of one is = rw (of, is, one) AreBlocks.hex

pub numbers-all : (text : List ℕ) (form : Form) (all : List BlockValue) (b : BlockValue) → form ≡ Numbers
    → b ≡ numbers_block text → all ≡ b ∷ [] → AreBlocks text form all
numbers-all text form all b of one is = rw (of, is, one) AreBlocks.numbers

pub ruleset block_forms =
    (memory-fault, dump-refused, pem-all, runs-all, base64-all, dump-all, hex-all, numbers-all)
