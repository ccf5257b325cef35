-- What is kept and found of the events of one element.
use Rattle.std.proofs.Common.{◌≡◌, ℕ, ◌+◌, ◌<◌, ◌≤◌, ◌&&◌, ◌||◌, ◌==◌, Bool, true, false, min, nat_lt}
use Rattle.std.proofs.Common.{if◌then◌else◌, List, [], ◌∷◌, ◌++◌, length, map, refl, sym, subst, ap, ap₂, ◌∙◌, arith}
use Rattle.std.proofs.Common.{append_assoc, append-nil, not, suc}
use Rattle.std.proofs.lemmas.Bool.{true≢false}
use Rattle.std.proofs.lemmas.Bool.Decides.{nat_tests}
use Rattle.std.proofs.lemmas.List.{length-map}
use Rattle.tlv_head.specs.declared.header.Size.{Size}
use Rattle.tlv_head.specs.declared.header.Size.TheVariants.{Definite, Indefinite}
use Rattle.tlv_head.specs.Header.{HeaderValue, octets_of}
use Rattle.tlv_head.specs.HeaderSoFar.{AllowsSize}
use Rattle.tlv_value.specs.Types.{has_primitive_form}
use Rattle.tlv_walk.specs.Events.{Begin, Bytes, Close, End, Enter, EventValue, Leave, Open, Unused, closing_event}
use Rattle.tlv_walk.specs.Events.{event_octets, opening_events}
use Rattle.tlv_walk.proofs.GrammarLemmas.Leads.{end_offset}
use Rattle.tlv_walk.specs.Forest.{Forest, end_octets, lead, opening, spelling}
use Rattle.tlv_walk.proofs.GrammarLemmas.Leads.{lead_by}
use Rattle.tlv_show.specs.declared.segment_frame.SegmentFrame.{SegmentFrame}
use Rattle.tlv_show.specs.SegmentCharacters.{has_wrong_characters, has_wrong_octet, has_wrong_segment, held_contents}
use Rattle.tlv_show.specs.SegmentCharacters.{is_tested_string}
use Rattle.std.specs.Prelude.{Some, None}
use Rattle.tlv_show.specs.SegmentCharactersState.{at_innermost, closing_offsets, closing_string, is_directly_in_string, new_segment_frame}
use Rattle.tlv_show.specs.SegmentCharactersState.{segment_after_octets, segment_begun, segment_closed, segment_ended}
use Rattle.tlv_show.specs.SegmentCharactersState.{segment_entered, segments_after_octets, segments_begun}
use Rattle.tlv_show.specs.SegmentCharactersState.{segments_closed, segments_found, segments_left, segments_opened}
use Rattle.tlv_show.specs.SegmentCharactersState.{segments_step}
use Rattle.tlv_show.specs.SetOrder.{offset_if}
use Rattle.tlv_show.proofs.SegmentLemmas.Frames.{AreBetweenSegments, AreFewOpen, after-append, all-after-append}
use Rattle.tlv_show.proofs.SegmentLemmas.Frames.{closed-entered, frame-taken, frame_passed, passed, passed-same}

-- ---- a list of events

-- what is kept, and the offsets that were found
pub record SegmentsRun : Type 0 where
  pub frames : List SegmentFrame
  pub found : List ℕ

abbrev pub then_offsets : List ℕ → SegmentsRun → SegmentsRun
then_offsets found u = record { frames = u.frames; found = found ++ u.found }

abbrev pub run_segments : List SegmentFrame → List EventValue → SegmentsRun
run_segments frames [] = record { frames = frames; found = [] }
run_segments frames (e ∷ es) = then_offsets (segments_found frames e) (run_segments (segments_step frames e) es)

pub run_more : (frames : List SegmentFrame) (xs ys : List EventValue)
    → run_segments frames (xs ++ ys)
    ≡ then_offsets (run_segments frames xs).found (run_segments (run_segments frames xs).frames ys)
run_more frames [] ys = refl
run_more frames (x ∷ xs) ys =
    let t : List SegmentFrame = segments_step frames x in
    let found : List ℕ = segments_found frames x in
    ap (then_offsets found) (run_more t xs ys)
    ∙ ap (λ (l : List ℕ). record { frames = (run_segments (run_segments t xs).frames ys).frames; found = l })
    (sym (append_assoc found (run_segments t xs).found (run_segments (run_segments t xs).frames ys).found))

-- ---- a primitive

abbrev pub primitive_taken : List SegmentFrame → HeaderValue → List ℕ → List SegmentFrame
primitive_taken frames h c = at_innermost segment_ended (segments_after_octets c (segments_begun frames h))

pub run-primitive : (frames : List SegmentFrame) (h : HeaderValue) (c : List ℕ) (es : List EventValue)
    → run_segments frames (Begin h ∷ Bytes c ∷ End ∷ es) ≡ run_segments (primitive_taken frames h c) es
run-primitive frames h c es = refl

pub primitive-passed : (frames : List SegmentFrame) (h : HeaderValue) (c : List ℕ) → h.constructed ≡ false
    → AreBetweenSegments frames
    → primitive_taken frames h c ≡ passed (octets_of h ++ c) (λ n. has_wrong_octet n c) frames
primitive-passed [] h c primitive between = refl
primitive-passed (w ∷ outer) h c primitive between =
    ap₂ (λ (v : SegmentFrame) (l : List SegmentFrame). v ∷ l) (frame-taken w h c between)
    (all-after-append (octets_of h) c outer)
    ∙ passed-same (octets_of h ++ c) (λ n. has_primitive_form h && has_wrong_octet n c) (λ n. has_wrong_octet n c) (w ∷ outer)
    (λ n. ap (λ (k : Bool). not k && has_wrong_octet n c) primitive)

-- ---- an element that holds others begins

-- between its opening and the first element that it holds, without a frame for it
abbrev pub begun_frames : List SegmentFrame → HeaderValue → List SegmentFrame
begun_frames frames h = segments_after_octets (lead h) (segments_begun frames h)

abbrev entered_as : Bool → HeaderValue → List SegmentFrame → List SegmentFrame
entered_as with_frame h frames =
    if with_frame
    then new_segment_frame h ∷ at_innermost segment_entered frames
    else at_innermost segment_entered frames

opened-by : (frames : List SegmentFrame) (h : HeaderValue) (es : List EventValue) (k three : Bool)
    → run_segments frames (((if k then Open h else Enter h) ∷ map (λ z. Unused) (lead_by k three)) ++ es)
    ≡ run_segments (segments_opened frames h) es
opened-by frames h es true three = refl
opened-by frames h es false false = refl
opened-by frames h es false true = refl

pub run-opening : (frames : List SegmentFrame) (h : HeaderValue) (es : List EventValue)
    → run_segments frames (opening_events h ++ es) ≡ run_segments (segments_opened frames h) es
run-opening frames h es = opened-by frames h es h.constructed (h.number == 3)

-- ---- and ends

close-octets : (size : Size) (offset : ℕ) → event_octets (Close (end_offset size offset)) ≡ end_octets size
close-octets (Definite n) offset = refl
close-octets Indefinite offset = refl

no-end_octets : (size : Size) → AllowsSize false size → end_octets size ≡ []
no-end_octets size allowed = ap (λ (k : Bool). if k then [] else 0 ∷ 0 ∷ []) allowed

abbrev closed_run : List SegmentFrame → List ℕ → List EventValue → SegmentsRun
closed_run frames octets es = then_offsets (closing_offsets frames) (run_segments (segments_closed frames octets) es)

closed-by : (frames : List SegmentFrame) (size : Size) (offset : ℕ) (es : List EventValue) (k : Bool)
    → AllowsSize k size
    → run_segments frames ((if k then Close (end_offset size offset) else Leave) ∷ es)
    ≡ closed_run frames (end_octets size) es
closed-by frames size offset es true allowed = ap (λ (l : List ℕ). closed_run frames l es) (close-octets size offset)
closed-by frames size offset es false allowed =
    ap (λ (l : List ℕ). closed_run frames l es) (sym (no-end_octets size allowed))

pub run-closing : (frames : List SegmentFrame) (h : HeaderValue) (inside : Forest) (es : List EventValue)
    → AllowsSize h.constructed h.size
    → run_segments frames (closing_event h inside ∷ es)
    ≡ then_offsets (closing_offsets frames) (run_segments (segments_closed frames (end_octets h.size)) es)
run-closing frames h inside es allowed =
    closed-by frames h.size (h.offset + length (opening h) + length (spelling inside)) es h.constructed allowed

-- ---- what is kept inside

begun-length : (frames : List SegmentFrame) (h : HeaderValue) → length (begun_frames frames h) ≡ length frames
begun-length [] h = refl
begun-length (w ∷ outer) h =
    ap suc
    (ap length (all-after-append (octets_of h) (lead h) outer)
    ∙ length-map outer (λ (v : SegmentFrame). segment_after_octets v (octets_of h ++ lead h)))

innermost-length : (frames : List SegmentFrame) → length (at_innermost segment_entered frames) ≡ length frames
innermost-length [] = refl
innermost-length (w ∷ outer) = refl

not-direct : (n : ℕ) → (min (n + 1) 255 == 0) ≡ false
not-direct n = let some : 0 < min (n + 1) 255 = omega arith in grind (arith, nat_tests)

opened-is : (frames : List SegmentFrame) (h : HeaderValue) → length frames < 128
    → segments_opened frames h ≡ entered_as (is_tested_string h) h (begun_frames frames h)
opened-is frames h few =
    let e = begun-length frames h in
    let less : length (begun_frames frames h) < 128 = omega (arith, e) in
    let room : nat_lt (length (begun_frames frames h)) 128 ≡ true = grind (arith, nat_tests) in
    ap (λ (k : Bool). entered_as (is_tested_string h && k) h (begun_frames frames h)) room
    ∙ ap (λ (k : Bool). entered_as k h (begun_frames frames h)) (and-true (is_tested_string h))
  where
    and-true : (k : Bool) → (k && true) ≡ k
    and-true true = refl
    and-true false = refl

entered-between : (k : Bool) (h : HeaderValue) (frames : List SegmentFrame)
    → AreBetweenSegments (entered_as k h frames)
entered-between true h frames = λ direct. refl
entered-between false h [] = tt
entered-between false h (w ∷ outer) = λ direct. absurd (true≢false (sym direct ∙ not-direct w.open_count))

entered-few : (k : Bool) (h : HeaderValue) (n : ℕ) (frames : List SegmentFrame) → AreFewOpen n frames
    → AreFewOpen (n + 1) (entered_as k h frames)
entered-few true h n frames few = omega arith
entered-few false h n [] few = tt
entered-few false h n (w ∷ outer) few = omega (arith, few)

entered-length : (k : Bool) (h : HeaderValue) (frames : List SegmentFrame)
    → length (entered_as k h frames) ≤ length frames + 1
entered-length true h frames = omega (arith, innermost-length frames)
entered-length false h frames = omega (arith, innermost-length frames)

begun-few : (h : HeaderValue) (n : ℕ) (frames : List SegmentFrame) → AreFewOpen n frames
    → AreFewOpen n (begun_frames frames h)
begun-few h n [] few = tt
begun-few h n (w ∷ outer) few = few

pub opened-between : (frames : List SegmentFrame) (h : HeaderValue) → length frames < 128
    → AreBetweenSegments (segments_opened frames h)
opened-between frames h few =
    subst AreBetweenSegments (sym (opened-is frames h few))
    (entered-between (is_tested_string h) h (begun_frames frames h))

pub opened-few : (frames : List SegmentFrame) (h : HeaderValue) (n : ℕ) → length frames < 128 → AreFewOpen n frames
    → AreFewOpen (n + 1) (segments_opened frames h)
opened-few frames h n room few =
    subst (AreFewOpen (n + 1)) (sym (opened-is frames h room))
    (entered-few (is_tested_string h) h n (begun_frames frames h) (begun-few h n frames few))

pub opened-length : (frames : List SegmentFrame) (h : HeaderValue) → length frames < 128
    → length (segments_opened frames h) ≤ length frames + 1
opened-length frames h few =
    let l = entered-length (is_tested_string h) h (begun_frames frames h) in
    omega (arith, l, begun-length frames h, ap length (opened-is frames h few))

-- ---- what is kept after the elements that it holds

abbrev pub held_passed : Forest → List SegmentFrame → List SegmentFrame
held_passed inside frames = passed (spelling inside) (λ n. has_wrong_segment n inside) frames

left-as : (k : Bool) (h : HeaderValue) (inside : Forest) (frames : List SegmentFrame)
    → segments_left (held_passed inside (entered_as k h frames))
    ≡ segments_after_octets (spelling inside) (at_innermost segment_entered frames)
left-as true h inside frames = refl
left-as false h inside [] = refl
left-as false h inside (w ∷ outer) =
    let none : is_directly_in_string (segment_entered w) ≡ false = not-direct w.open_count in
    let rest : List SegmentFrame = segments_after_octets (spelling inside) outer in
    let v : SegmentFrame = frame_passed (spelling inside) (λ n. has_wrong_segment n inside) (segment_entered w) in
    ap (λ (k : Bool). if k then rest else v ∷ rest) none
    ∙ ap (λ (k : Bool). record (segment_entered w) {
      has_wrong = w.has_wrong || (if k
          then has_wrong_segment w.number inside
          else (w.in_contents && has_wrong_octet w.number (spelling inside)));
    } ∷ rest)
    none

found-as : (k : Bool) (h : HeaderValue) (inside : Forest) (frames : List SegmentFrame)
    → closing_offsets (held_passed inside (entered_as k h frames))
    ≡ offset_if (k && has_wrong_segment h.number inside) h.offset
found-as true h inside frames = refl
found-as false h inside [] = refl
found-as false h inside (w ∷ outer) =
    let v : SegmentFrame = frame_passed (spelling inside) (λ n. has_wrong_segment n inside) (segment_entered w) in
    ap (λ (k : Bool). offset_if (k && v.has_wrong) w.offset) (not-direct w.open_count)

pub closing-found : (frames : List SegmentFrame) (h : HeaderValue) (inside : Forest) → length frames < 128
    → closing_offsets (held_passed inside (segments_opened frames h))
    ≡ offset_if (has_wrong_characters h inside) h.offset
closing-found frames h inside room =
    ap (λ (l : List SegmentFrame). closing_offsets (held_passed inside l)) (opened-is frames h room)
    ∙ found-as (is_tested_string h) h inside (begun_frames frames h)

string-as : (k : Bool) (h : HeaderValue) (inside : Forest) (frames : List SegmentFrame)
    → closing_string (held_passed inside (entered_as k h frames))
    ≡ (if k && has_wrong_segment h.number inside then Some h.offset else None)
string-as true h inside frames = refl
string-as false h inside [] = refl
string-as false h inside (w ∷ outer) =
    let v : SegmentFrame = frame_passed (spelling inside) (λ n. has_wrong_segment n inside) (segment_entered w) in
    ap (λ (k : Bool). if k && v.has_wrong then Some w.offset else None) (not-direct w.open_count)

pub closing-string : (frames : List SegmentFrame) (h : HeaderValue) (inside : Forest) → length frames < 128
    → closing_string (held_passed inside (segments_opened frames h))
    ≡ (if has_wrong_characters h inside then Some h.offset else None)
closing-string frames h inside room =
    ap (λ (l : List SegmentFrame). closing_string (held_passed inside l)) (opened-is frames h room)
    ∙ string-as (is_tested_string h) h inside (begun_frames frames h)

-- all of it: its header, the elements that it holds, and its end-of-contents octets
abbrev holder_taken : List SegmentFrame → HeaderValue → List ℕ → List ℕ → List SegmentFrame
holder_taken frames h held end =
    at_innermost segment_closed
    (segments_after_octets end (segments_after_octets held (at_innermost segment_entered (begun_frames frames h))))

taken-passed : (frames : List SegmentFrame) (h : HeaderValue) (held end : List ℕ) → AreBetweenSegments frames
    → AreFewOpen 254 frames
    → holder_taken frames h held end
    ≡ passed (octets_of h ++ (lead h ++ (held ++ end)))
    (λ n. has_primitive_form h && has_wrong_octet n (lead h ++ (held ++ end)))
    frames
taken-passed [] h held end between few = refl
taken-passed (w ∷ outer) h held end between few =
    let v : SegmentFrame = segment_begun (segment_after_octets w (octets_of h)) h in
    let all : List ℕ = lead h ++ (held ++ end) in
    let frame : segment_after_octets (segment_after_octets (segment_after_octets v (lead h)) held) end
    ≡ segment_after_octets v all =
    after-append (segment_after_octets v (lead h)) held end ∙ after-append v (lead h) (held ++ end) in
    let out : List SegmentFrame = segments_after_octets (octets_of h) outer in
    let rest : segments_after_octets end (segments_after_octets held (segments_after_octets (lead h) out))
    ≡ segments_after_octets (octets_of h ++ all) outer =
    all-after-append held end (segments_after_octets (lead h) out)
    ∙ all-after-append (lead h) (held ++ end) out
    ∙ all-after-append (octets_of h) all outer in
    ap₂ (λ (u : SegmentFrame) (l : List SegmentFrame). u ∷ l)
    (ap (λ (u : SegmentFrame). segment_closed (segment_entered u)) frame
    ∙ closed-entered (segment_after_octets v all) few
    ∙ frame-taken w h all between)
    rest

-- only an element with a definite length is primitive
contents-wrong : (constructed : Bool) (size : Size) (front held : List ℕ) (n : ℕ) → AllowsSize constructed size
    → (not constructed && has_wrong_octet n (front ++ (held ++ end_octets size)))
    ≡ (not constructed && has_wrong_octet n (front ++ held))
contents-wrong true size front held n allowed = refl
contents-wrong false size front held n allowed =
    ap (λ (l : List ℕ). has_wrong_octet n (front ++ (held ++ l))) (no-end_octets size allowed)
    ∙ ap (λ (l : List ℕ). has_wrong_octet n (front ++ l)) (append-nil held)

pub holder-passed : (frames : List SegmentFrame) (h : HeaderValue) (inside : Forest) → length frames < 128
    → AreBetweenSegments frames → AreFewOpen 254 frames → AllowsSize h.constructed h.size
    → segments_closed (held_passed inside (segments_opened frames h)) (end_octets h.size)
    ≡ passed (octets_of h ++ (lead h ++ (spelling inside ++ end_octets h.size)))
    (λ n. has_primitive_form h && has_wrong_octet n (held_contents h inside))
    frames
holder-passed frames h inside room between few allowed =
    let octets : List ℕ = lead h ++ (spelling inside ++ end_octets h.size) in
    ap (λ (l : List SegmentFrame). segments_closed (held_passed inside l) (end_octets h.size)) (opened-is frames h room)
    ∙ ap (λ (l : List SegmentFrame). at_innermost segment_closed (segments_after_octets (end_octets h.size) l))
    (left-as (is_tested_string h) h inside (begun_frames frames h))
    ∙ taken-passed frames h (spelling inside) (end_octets h.size) between few
    ∙ passed-same (octets_of h ++ octets) (λ n. has_primitive_form h && has_wrong_octet n octets)
    (λ n. has_primitive_form h && has_wrong_octet n (held_contents h inside))
    frames
    (λ n. contents-wrong h.constructed h.size (lead h) (spelling inside) n allowed)
