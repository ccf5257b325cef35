-- A text has one list of blocks in a form.
use Rattle.std.proofs.Common.{◌≡◌, ◌+◌, ◌-◌, ◌<◌, ℕ, List, [], ◌∷◌, ◌++◌, Option, Result, Ok, Err}
use Rattle.std.proofs.Common.{◌∙◌, ap, arith, drop, false, inl, inr, length, refl, slice_index, subst, sym, take, true}
use Rattle.std.specs.List.{list_all}
use Rattle.std.proofs.lemmas.Bool.{and_parts, cases_order}
use Rattle.std.proofs.Math.Seq.{drop-append_seam, take-append_seam}
use Rattle.std.proofs.lemmas.List.{append_cancel_left, length-append}
use Rattle.base64.specs.Engines.{standard_no_pad, url_safe_no_pad}
use Rattle.base64.specs.GeneralPurpose.{IsBytes, decode_of}
use Rattle.base64.specs.declared.decode.DecodeError.{DecodeError}
use Rattle.base64.proofs.EngineFacts.{decode_of-encode_of}
use Rattle.tlv_text.specs.Base64.{ReadsBase64, base64_of}
use Rattle.tlv_text.specs.Blocks.{AreBlocks, ArePemBlocks, AreRunBlocks, BlockValue, IsBase64Block, IsPemBlock}
use Rattle.tlv_text.specs.Blocks.{alphabet_of, line_at, only_block, or_absent, place_in_text, state_at_place}
use Rattle.tlv_text.specs.Blocks.{state_with_end}
use Rattle.tlv_text.specs.Pem.{BeginsBlock, EndsBody, IsFirstBlock, begin_marker, dashes, is_label}
use Rattle.tlv_text.specs.Pem.{is_label_character}
use Rattle.tlv_text.specs.PemBody.{base64_part}
use Rattle.tlv_text.specs.Runs.{IsFirstRun}
use Rattle.tlv_text.specs.declared.base64_text.Alphabet.{Alphabet}
use Rattle.tlv_text.specs.declared.base64_text.Alphabet.TheVariants.{Standard, UrlSafe}
use Rattle.tlv_text.specs.declared.block.Form.{Form}

-- ---- base64

abbrev ok-value : Result (List ℕ) DecodeError → List ℕ
ok-value (Ok x) = x
ok-value (Err e) = []

-- octets are those of their base64
one-octets : (alphabet : Alphabet) (xs ys : List ℕ) → IsBytes xs → IsBytes ys
    → base64_of alphabet xs ≡ base64_of alphabet ys → xs ≡ ys
one-octets Standard xs ys are also e =
    ap ok-value
    (sym (decode_of-encode_of standard_no_pad xs refl are) ∙ ap (decode_of standard_no_pad) e
    ∙ decode_of-encode_of standard_no_pad ys refl also)
one-octets UrlSafe xs ys are also e =
    ap ok-value
    (sym (decode_of-encode_of url_safe_no_pad xs refl are) ∙ ap (decode_of url_safe_no_pad) e
    ∙ decode_of-encode_of url_safe_no_pad ys refl also)

pub one-base64 : (alphabet : Alphabet) (text xs ys : List ℕ) (r s : Option ℕ) → ReadsBase64 alphabet text xs r
    → ReadsBase64 alphabet text ys s → (xs ≡ ys) × (r ≡ s)
one-base64 alphabet text xs ys _ _ (ReadsBase64.whole p) (ReadsBase64.whole q) =
    (one-octets alphabet xs ys p.are_octets q.are_octets (p.symbols ∙ sym q.symbols), refl)
one-base64 alphabet text xs ys _ _ (ReadsBase64.whole p) (ReadsBase64.refused none are symbols) = absurd (none xs p)
one-base64 alphabet text xs ys _ _ (ReadsBase64.refused none are symbols) (ReadsBase64.whole q) = absurd (none ys q)
one-base64 alphabet text xs ys _ _ (ReadsBase64.refused none are symbols) (ReadsBase64.refused other also same) =
    (one-octets alphabet xs ys are also (symbols ∙ sym same), refl)

-- ---- PEM

-- a label ends at its first hyphen
same-label : (label other xs ys : List ℕ) → list_all is_label_character label ≡ true
    → list_all is_label_character other ≡ true → label ++ 45 ∷ xs ≡ other ++ 45 ∷ ys → (label ≡ other) × (xs ≡ ys)
same-label [] [] xs ys p q e = (refl, ap (drop 1) e)
same-label [] (x ∷ other) xs ys p q e =
    let hyphen : false ≡ is_label_character x = ap (λ (t : List ℕ). is_label_character (slice_index t 0)) e in
    absurd (cc (hyphen, (and_parts (is_label_character x) (list_all is_label_character other) q).0))
same-label (x ∷ label) [] xs ys p q e =
    let hyphen : is_label_character x ≡ false = ap (λ (t : List ℕ). is_label_character (slice_index t 0)) e in
    absurd (cc (hyphen, (and_parts (is_label_character x) (list_all is_label_character label) p).0))
same-label (x ∷ label) (y ∷ other) xs ys p q e =
    let labels = (and_parts (is_label_character x) (list_all is_label_character label) p).1 in
    let others = (and_parts (is_label_character y) (list_all is_label_character other) q).1 in
    let more = same-label label other xs ys labels others (ap (drop 1) e) in
    let head : x ≡ y = ap (λ (t : List ℕ). slice_index t 0) e in
    (ap (λ (z : ℕ). z ∷ label) head ∙ ap (λ (l : List ℕ). y ∷ l) more.0, more.1)

label-characters : (label : List ℕ) → is_label label ≡ true → list_all is_label_character label ≡ true
label-characters label e = (and_parts _ _ (and_parts _ _ e).0).0

-- a text begins one block at most
same-begin : (text label other after behind : List ℕ) → BeginsBlock text label after → BeginsBlock text other behind
    → (label ≡ other) × (after ≡ behind)
same-begin text label other after behind p q =
    let same = append_cancel_left begin_marker (label ++ (dashes ++ after)) (other ++ (dashes ++ behind))
    (sym p.spelled ∙ q.spelled) in
    let parts =
    same-label label other (45 ∷ 45 ∷ 45 ∷ 45 ∷ after) (45 ∷ 45 ∷ 45 ∷ 45 ∷ behind)
    (label-characters label p.has_label) (label-characters other q.has_label) same in
    (parts.0, ap (drop 4) parts.1)

not-longer : (after body other rest behind : List ℕ) → EndsBody after body rest → EndsBody after other behind
    → length body < length other → ⊥
not-longer after body other rest behind p q less =
    elim p.end [
      | inl none ↦
          absurd (omega (
            arith,
            less,
            ap length p.spelled,
            length-append body rest,
            ap length none,
            ap length q.spelled,
            length-append other behind,
          ))
      | inr occurs ↦ absurd (q.no_sooner (length body) less occurs)
    ]

-- a body has one end
same-body : (after body other rest behind : List ℕ) → EndsBody after body rest → EndsBody after other behind
    → (body ≡ other) × (rest ≡ behind)
same-body after body other rest behind p q =
    elim (cases_order (length body) (length other)) [
      | inl same ↦ (
        sym (ap (take (length body)) p.spelled ∙ take-append_seam body rest)
            ∙ ap (λ (n : ℕ). take n after) same
            ∙ ap (take (length other)) q.spelled ∙ take-append_seam other behind,
        sym (ap (drop (length body)) p.spelled ∙ drop-append_seam body rest)
            ∙ ap (λ (n : ℕ). drop n after) same
            ∙ ap (drop (length other)) q.spelled ∙ drop-append_seam other behind,
      )
      | inr (inl less) ↦ absurd (not-longer after body other rest behind p q less)
      | inr (inr more) ↦ absurd (not-longer after other body behind rest q p more)
    ]

-- what the first block of a text is
record SameFirst (start next : ℕ) (label other body middle rest behind : List ℕ) : Type 0 where
  start_is : start ≡ next
  label_is : label ≡ other
  body_is : body ≡ middle
  rest_is : rest ≡ behind

one-first : (text : List ℕ) (start next : ℕ) (label other body middle rest behind : List ℕ)
    → IsFirstBlock text start label body rest → IsFirstBlock text next other middle behind
    → SameFirst start next label other body middle rest behind
one-first text start next label other body middle rest behind p q =
    elim (cases_order start next) [
      | inl same ↦
          let begins = same-begin (drop next text) label other p.after q.after
          (subst (λ (n : ℕ). BeginsBlock (drop n text) label p.after) same p.begins) q.begins in
          let ends = same-body q.after body middle rest behind
          (subst (λ (after : List ℕ). EndsBody after body rest) begins.1 p.ends) q.ends in record {
            start_is = same;
            label_is = begins.0;
            body_is = ends.0;
            rest_is = ends.1;
          }
      | inr (inl less) ↦ absurd (q.no_sooner start less label p.after p.begins)
      | inr (inr more) ↦ absurd (p.no_sooner next more other q.after q.begins)
    ]

one-pem : (text : List ℕ) (place : ℕ) (label body rest : List ℕ) (b c : BlockValue)
    → IsPemBlock text place label body rest b → IsPemBlock text place label body rest c → b ≡ c
one-pem text place label body rest _ _ (IsPemBlock.encrypted is) (IsPemBlock.encrypted also) = refl
one-pem text place label body rest _ _ (IsPemBlock.encrypted is) (IsPemBlock.decoded octets refused not reads) =
    absurd (cc (is, not))
one-pem text place label body rest _ _ (IsPemBlock.decoded octets refused not reads) (IsPemBlock.encrypted is) =
    absurd (cc (is, not))
one-pem text place label body rest _ _ (IsPemBlock.decoded octets refused not reads)
    (IsPemBlock.decoded others r also same) =
    let one = one-base64 Standard (base64_part body) octets others refused r reads same in
    ap (pem-value octets) one.1 ∙ ap (λ (o : List ℕ). pem-value o r) one.0
  where
    pem-value : List ℕ → Option ℕ → BlockValue
    pem-value o at = record {
      line = line_at text place;
      label = label;
      octets = o;
      state = state_with_end rest
          (state_at_place text (length text - (length (base64_part body) + length rest)) at);
    }

-- a block that comes first for two reasons
moved-pem : (text part : List ℕ) (start next : ℕ) (label other body middle rest behind : List ℕ) (c : BlockValue)
    → SameFirst start next label other body middle rest behind
    → IsPemBlock text (place_in_text text part + next) other middle behind c
    → IsPemBlock text (place_in_text text part + start) label body rest c
moved-pem text part start next label other body middle rest behind c same is =
    rw (same.start_is, same.label_is, same.body_is, same.rest_is) is

one-pem_list : (text part : List ℕ) (bs cs : List BlockValue) → ArePemBlocks text part bs → ArePemBlocks text part cs
    → bs ≡ cs
one-pem_list text part _ _ (ArePemBlocks.no_more none) (ArePemBlocks.no_more also) = refl
one-pem_list text part _ _ (ArePemBlocks.no_more none) (ArePemBlocks.next start label body rest first is more) =
    absurd (none start label first.after first.begins)
one-pem_list text part _ _ (ArePemBlocks.next start label body rest first is more) (ArePemBlocks.no_more none) =
    absurd (none start label first.after first.begins)
one-pem_list text part _ _ (ArePemBlocks.next start label body rest {b} {bs} first is more)
    (ArePemBlocks.next next other middle behind {b = c} {bs = cs} second also others) =
    let same = one-first part start next label other body middle rest behind first second in
    ap (λ (d : BlockValue). d ∷ bs)
    (one-pem text (place_in_text text part + start) label body rest b c is
    (moved-pem text part start next label other body middle rest behind c same also))
    ∙ ap (λ (ds : List BlockValue). c ∷ ds)
    (one-pem_list text rest bs cs more
    (subst (λ (t : List ℕ). ArePemBlocks text t cs) (sym same.rest_is) others))

-- ---- runs

record SameRun (start next : ℕ) (run other rest behind : List ℕ) : Type 0 where
  start_is : start ≡ next
  run_is : run ≡ other
  rest_is : rest ≡ behind

one-run : (text : List ℕ) (start next : ℕ) (run other rest behind : List ℕ) → IsFirstRun text start run rest
    → IsFirstRun text next other behind → SameRun start next run other rest behind
one-run text start next run other rest behind p q =
    elim (cases_order start next) [
      | inl same ↦
          let moved : IsFirstRun text next run rest =
          subst (λ (n : ℕ). IsFirstRun text n run rest) same p in
          let size : length run ≡ length other = moved.size ∙ sym q.size in record {
            start_is = same;
            run_is = sym (ap (take (length run)) moved.spelled ∙ take-append_seam run rest)
                ∙ ap (λ (n : ℕ). take n (drop next text)) size
                ∙ ap (take (length other)) q.spelled ∙ take-append_seam other behind;
            rest_is = sym (ap (drop (length run)) moved.spelled ∙ drop-append_seam run rest)
                ∙ ap (λ (n : ℕ). drop n (drop next text)) size
                ∙ ap (drop (length other)) q.spelled ∙ drop-append_seam other behind;
          }
      | inr (inl less) ↦ absurd (omega (arith, q.no_sooner start less, p.long))
      | inr (inr more) ↦ absurd (omega (arith, p.no_sooner next more, q.long))
    ]

abbrev run-block : List ℕ → ℕ → List ℕ → Option ℕ → BlockValue
run-block text place octets refused = record {
  line = line_at text place;
  label = [];
  octets = octets;
  state = state_at_place text place refused;
}

one-run_list : (text part : List ℕ) (bs cs : List BlockValue) → AreRunBlocks text part bs → AreRunBlocks text part cs
    → bs ≡ cs
one-run_list text part _ _ (AreRunBlocks.no_more none) (AreRunBlocks.no_more also) = refl
one-run_list text part _ _ (AreRunBlocks.no_more none) (AreRunBlocks.next start run rest octets refused first reads more) =
    absurd (omega (arith, none start, first.long))
one-run_list text part _ _ (AreRunBlocks.next start run rest octets refused first reads more) (AreRunBlocks.no_more none) =
    absurd (omega (arith, none start, first.long))
one-run_list text part _ _ (AreRunBlocks.next start run rest octets refused {bs} first reads more)
    (AreRunBlocks.next next other behind others r {bs = cs} second also follow) =
    let same = one-run part start next run other rest behind first second in
    let one =
    one-base64 Standard run octets others refused r reads
    (subst (λ (t : List ℕ). ReadsBase64 Standard t others r) (sym same.run_is) also) in
    let place = place_in_text text part in
    ap (λ (n : ℕ). run-block text (place + n) octets refused ∷ bs) same.start_is
    ∙ ap (λ (o : List ℕ). run-block text (place + next) o refused ∷ bs) one.0
    ∙ ap (λ (at : Option ℕ). run-block text (place + next) others at ∷ bs) one.1
    ∙ ap (λ (ds : List BlockValue). run-block text (place + next) others r ∷ ds)
    (one-run_list text rest bs cs more
    (subst (λ (t : List ℕ). AreRunBlocks text t cs) (sym same.rest_is) follow))

-- ---- all forms

one-base64_block : (text : List ℕ) (b c : BlockValue) → IsBase64Block text b → IsBase64Block text c → b ≡ c
one-base64_block text _ _ (IsBase64Block.base64 octets refused reads) (IsBase64Block.base64 others r also) =
    let one = one-base64 (alphabet_of text) text octets others refused r reads also in
    ap (λ (o : List ℕ). only_block o (state_at_place text 0 refused)) one.0
    ∙ ap (λ (at : Option ℕ). only_block others (state_at_place text 0 at)) one.1

pub one-list_of_blocks : (text : List ℕ) (form : Form) (bs cs : List BlockValue) → AreBlocks text form bs
    → AreBlocks text form cs → bs ≡ cs
one-list_of_blocks text _ _ _ (AreBlocks.pem {bs} are) (AreBlocks.pem {bs = cs} also) =
    ap or_absent (one-pem_list text text bs cs are also)
one-list_of_blocks text _ _ _ AreBlocks.dump AreBlocks.dump = refl
one-list_of_blocks text _ _ _ AreBlocks.hex AreBlocks.hex = refl
one-list_of_blocks text _ _ _ AreBlocks.numbers AreBlocks.numbers = refl
one-list_of_blocks text _ _ _ (AreBlocks.base64 {b} is) (AreBlocks.base64 {b = c} also) =
    ap (λ (d : BlockValue). d ∷ []) (one-base64_block text b c is also)
one-list_of_blocks text _ _ _ (AreBlocks.runs {bs} are) (AreBlocks.runs {bs = cs} also) =
    ap or_absent (one-run_list text text bs cs are also)
