-- What a frame keeps of octets, and of one element after another.
use Rattle.std.proofs.Common.{◌≡◌, ℕ, ◌+◌, ◌-◌, ◌≤◌, ◌&&◌, ◌||◌, not, Bool, true, false, min}
use Rattle.std.proofs.Common.{if◌then◌else◌, List, [], ◌∷◌, ◌++◌, length, refl, suc, sym, ap, ap₂, ◌∙◌, arith}
use Rattle.std.proofs.lemmas.Bool.{true≢false}
use Rattle.std.proofs.lemmas.List.{length-map}
use Rattle.std.proofs.lemmas.List.Folds.{list_all-append}
use Rattle.std.specs.List.{list_all}
use Rattle.std.specs.Prelude.{⊤}
use Rattle.tlv_head.specs.Header.{HeaderValue, octets_of}
use Rattle.tlv_value.specs.Types.{has_primitive_form}
use Rattle.tlv_show.specs.declared.segment_frame.SegmentFrame.{SegmentFrame}
use Rattle.tlv_show.specs.SegmentCharacters.{has_wrong_octet}
use Rattle.tlv_show.specs.SegmentCharactersState.{is_directly_in_string, segment_after_octets, segment_begun, segment_closed}
use Rattle.tlv_show.specs.SegmentCharactersState.{segment_ended, segment_entered, segments_after_octets}
use Rattle.tlv_value.specs.Characters.{allows_octet}

-- ---- octets one after another

not-both : (a b : Bool) → not (a && b) ≡ (not a || not b)
not-both true b = refl
not-both false b = refl

pub wrong-append : (number : ℕ) (a b : List ℕ)
    → has_wrong_octet number (a ++ b) ≡ (has_wrong_octet number a || has_wrong_octet number b)
wrong-append number a b =
    ap not (list_all-append (allows_octet number) a b)
    ∙ not-both (list_all (allows_octet number) a) (list_all (allows_octet number) b)

or-none : (x i : Bool) → (x || (i && false)) ≡ x
or-none true i = refl
or-none false true = refl
or-none false false = refl

or-both : (x i a b : Bool) → ((x || (i && a)) || (i && b)) ≡ (x || (i && (a || b)))
or-both true i a b = refl
or-both false true a b = refl
or-both false false a b = refl

abbrev with_wrong : SegmentFrame → Bool → SegmentFrame
with_wrong w wrong = record w { has_wrong = wrong }

pub after-none : (w : SegmentFrame) → segment_after_octets w [] ≡ w
after-none w = ap (with_wrong w) (or-none w.has_wrong w.in_contents)

pub after-append : (w : SegmentFrame) (a b : List ℕ)
    → segment_after_octets (segment_after_octets w a) b ≡ segment_after_octets w (a ++ b)
after-append w a b =
    ap (with_wrong w)
    (or-both w.has_wrong w.in_contents (has_wrong_octet w.number a) (has_wrong_octet w.number b)
    ∙ ap (λ (k : Bool). w.has_wrong || (w.in_contents && k)) (sym (wrong-append w.number a b)))

pub all-after-none : (frames : List SegmentFrame) → segments_after_octets [] frames ≡ frames
all-after-none [] = refl
all-after-none (w ∷ outer) =
    ap₂ (λ (v : SegmentFrame) (l : List SegmentFrame). v ∷ l) (after-none w) (all-after-none outer)

pub all-after-append : (a b : List ℕ) (frames : List SegmentFrame)
    → segments_after_octets b (segments_after_octets a frames) ≡ segments_after_octets (a ++ b) frames
all-after-append a b [] = refl
all-after-append a b (w ∷ outer) =
    ap₂ (λ (v : SegmentFrame) (l : List SegmentFrame). v ∷ l) (after-append w a b) (all-after-append a b outer)

-- ---- whole elements

-- a frame after whole elements with these octets: `wrong` says for which types of the string one of the elements has a
-- wrong octet, if these are its segments
abbrev pub frame_passed : List ℕ → (ℕ → Bool) → SegmentFrame → SegmentFrame
frame_passed octets wrong w = record w {
  has_wrong =
      w.has_wrong
      || (if is_directly_in_string w then wrong w.number else (w.in_contents && has_wrong_octet w.number octets));
}

abbrev pub passed : List ℕ → (ℕ → Bool) → List SegmentFrame → List SegmentFrame
passed octets wrong [] = []
passed octets wrong (w ∷ outer) = frame_passed octets wrong w ∷ segments_after_octets octets outer

-- what comes is directly in the innermost string: no contents octets of a segment come
abbrev pub AreBetweenSegments : List SegmentFrame → Type 0
AreBetweenSegments [] = ⊤
AreBetweenSegments (w ∷ outer) = is_directly_in_string w ≡ true → w.in_contents ≡ false

abbrev pub AreFewOpen : ℕ → List SegmentFrame → Type 0
AreFewOpen n [] = ⊤
AreFewOpen n (w ∷ outer) = w.open_count ≤ n

pub passed-between : (octets : List ℕ) (wrong : ℕ → Bool) (frames : List SegmentFrame) → AreBetweenSegments frames
    → AreBetweenSegments (passed octets wrong frames)
passed-between octets wrong [] k = tt
passed-between octets wrong (w ∷ outer) k = k

pub passed-few : (octets : List ℕ) (wrong : ℕ → Bool) (n : ℕ) (frames : List SegmentFrame) → AreFewOpen n frames
    → AreFewOpen n (passed octets wrong frames)
passed-few octets wrong n [] k = tt
passed-few octets wrong n (w ∷ outer) k = k

pub passed-length : (octets : List ℕ) (wrong : ℕ → Bool) (frames : List SegmentFrame)
    → length (passed octets wrong frames) ≡ length frames
passed-length octets wrong [] = refl
passed-length octets wrong (w ∷ outer) =
    ap suc (length-map outer (λ (v : SegmentFrame). segment_after_octets v octets))

pub passed-none : (frames : List SegmentFrame) → frames ≡ passed [] (λ n. false) frames
passed-none [] = refl
passed-none (w ∷ outer) =
    ap₂ (λ (v : SegmentFrame) (l : List SegmentFrame). v ∷ l)
    (ap (with_wrong w) (sym (none w.has_wrong (is_directly_in_string w) w.in_contents)))
    (sym (all-after-none outer))
  where
    none : (x d i : Bool) → (x || (if d then false else (i && false))) ≡ x
    none true d i = refl
    none false true i = refl
    none false false true = refl
    none false false false = refl

pub passed-same : (octets : List ℕ) (u v : ℕ → Bool) (frames : List SegmentFrame) → ((n : ℕ) → u n ≡ v n)
    → passed octets u frames ≡ passed octets v frames
passed-same octets u v [] same = refl
passed-same octets u v (w ∷ outer) same =
    ap (λ (k : Bool). with_wrong w (w.has_wrong
    || (if is_directly_in_string w then k else (w.in_contents && has_wrong_octet w.number octets)))
    ∷ segments_after_octets octets outer)
    (same w.number)

pub passed-more : (a b : List ℕ) (u v : ℕ → Bool) (frames : List SegmentFrame)
    → passed b v (passed a u frames) ≡ passed (a ++ b) (λ n. u n || v n) frames
passed-more a b u v [] = refl
passed-more a b u v (w ∷ outer) =
    let n : ℕ = w.number in
    ap₂ (λ (x : SegmentFrame) (l : List SegmentFrame). x ∷ l)
    (ap (with_wrong w)
    (more w.has_wrong (is_directly_in_string w) w.in_contents (u n) (v n) (has_wrong_octet n a) (has_wrong_octet n b)
    ∙ ap (λ (k : Bool). w.has_wrong || (if is_directly_in_string w then (u n || v n) else (w.in_contents && k)))
    (sym (wrong-append n a b))))
    (all-after-append a b outer)
  where
    more : (x d i p q f g : Bool)
        → ((x || (if d then p else (i && f))) || (if d then q else (i && g)))
        ≡ (x || (if d then (p || q) else (i && (f || g))))
    more true d i p q f g = refl
    more false true i p q f g = refl
    more false false true p q f g = refl
    more false false false p q f g = refl

-- ---- one element: its header, its contents octets and its end

pub frame-taken : (w : SegmentFrame) (h : HeaderValue) (c : List ℕ) → (is_directly_in_string w ≡ true → w.in_contents ≡ false)
    → segment_ended (segment_after_octets (segment_begun (segment_after_octets w (octets_of h)) h) c)
    ≡ frame_passed (octets_of h ++ c) (λ n. has_primitive_form h && has_wrong_octet n c) w
frame-taken w h c between =
    let n : ℕ = w.number in
    let d : Bool = is_directly_in_string w in
    let p : Bool = has_primitive_form h in
    ap₂ (λ (i k : Bool). record w { in_contents = i; has_wrong = k })
    (contents d w.in_contents p between)
    (wrong w.has_wrong d w.in_contents p (has_wrong_octet n (octets_of h)) (has_wrong_octet n c) between
    ∙ ap (λ (k : Bool). w.has_wrong || (if d then (p && has_wrong_octet n c) else (w.in_contents && k)))
    (sym (wrong-append n (octets_of h) c)))
  where
    contents : (d i p : Bool) → (d ≡ true → i ≡ false) → (not d && (if d then p else i)) ≡ i
    contents true i p between = sym (between refl)
    contents false i p between = refl

    wrong : (x d i p f g : Bool) → (d ≡ true → i ≡ false)
        → ((x || (i && f)) || ((if d then p else i) && g)) ≡ (x || (if d then (p && g) else (i && (f || g))))
    wrong true d i p f g between = refl
    wrong false true true p f g between = absurd (true≢false (between refl))
    wrong false true false p f g between = refl
    wrong false false true p f g between = refl
    wrong false false false p f g between = refl

pub closed-entered : (w : SegmentFrame) → w.open_count ≤ 254
    → segment_closed (segment_entered w) ≡ segment_ended w
closed-entered w few =
    let same : min (w.open_count + 1) 255 - 1 ≡ w.open_count = omega arith in
    ap (λ (n : ℕ). segment_ended (record w { open_count = n })) same
