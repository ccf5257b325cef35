-- A walker takes a primitive at once: its header, its contents and its end.
use Rattle.std.proofs.Common.{◌≡◌, ℕ, ◌+◌, Bool, true, false, ◌||◌, List, [], ◌∷◌, ◌++◌, length, take, drop, refl, sym}
use Rattle.std.proofs.Common.{ap, ap₂, ◌∙◌, subst, arith}
use Rattle.std.proofs.lemmas.Bool.{true≢false}
use Rattle.std.proofs.lemmas.List.{length-drop, length-take-le, take-append-drop}
use Rattle.std.proofs.Math.Seq.{drop-append_seam, take-add}
use Rattle.tlv_head.specs.declared.header.HeaderFields.{HeaderFields}
use Rattle.tlv_head.specs.HeaderFields.{new_header}
use Rattle.tlv_head.specs.Header.{announced_length}
use Rattle.tlv_head.proofs.Wraps.{is_wrapper}
use Rattle.tlv_walk.specs.declared.walker.headers.HeaderKind.TheVariants as kind
use Rattle.tlv_walk.specs.declared.walker.short_way.WholePrimitive.{WholePrimitive}
use Rattle.tlv_walk.specs.Events.{Begin, Bytes, End}
use Rattle.tlv_walk.specs.Follow.{IsWholeElement, contents_in, whole_events}
use Rattle.tlv_walk.specs.WalkerState.{WalkerState, Between, InPrimitive, PhaseValue}
use Rattle.tlv_walk.specs.Private.WalkerCalls.{CanPass, after_header, header_at}
use Rattle.tlv_walk.specs.Private.Yields.{Continues}
use Rattle.tlv_walk.specs.Stack.{bound_of}
use Rattle.tlv_walk.specs.Stack.{IsWithin}
use Rattle.tlv_walk.proofs.WalkerLemmas.HeaderKinds.{takes_at_once}
use Rattle.tlv_walk.proofs.WalkerLemmas.ZipperGrowth.{continues_both}
use Rattle.tlv_walk.proofs.WalkerLemmas.YieldedEvents.{yields_passed}

-- the contents of a primitive with which the octets begin
abbrev contents_at : WholePrimitive → List ℕ → List ℕ
contents_at p piece = take (announced_length p.fields.size) (drop p.header_length piece)

-- the octets are those of its header, and its contents
whole_octets : (w : WalkerState) (piece : List ℕ) (p : WholePrimitive) → CanPass w piece p
    → take p.octet_count piece ≡ take p.header_length piece ++ contents_at p piece
whole_octets w piece p can =
    ap (λ (n : ℕ). take n piece) can.octet_count ∙ take-add p.header_length (announced_length p.fields.size) piece

passed_length : (w : WalkerState) (piece : List ℕ) (p : WholePrimitive) → CanPass w piece p
    → length (contents_at p piece) ≡ announced_length p.fields.size
passed_length w piece p can =
    length-take-le (announced_length p.fields.size) (drop p.header_length piece)
    (omega (arith, can.octet_count, can.within, length-drop p.header_length piece))

contents_after : (f : HeaderFields) (o c : List ℕ) → contents_in (new_header f o) (o ++ c) ≡ c
contents_after f o c =
    ap (λ (l : List ℕ). drop (length l) (o ++ c)) (take-append-drop f.id_len o) ∙ drop-append_seam o c

contents_whole : (w : WalkerState) (piece : List ℕ) (p : WholePrimitive) → CanPass w piece p
    → contents_in (header_at p piece) (take p.octet_count piece) ≡ contents_at p piece
contents_whole w piece p can =
    ap (contents_in (header_at p piece)) (whole_octets w piece p can)
    ∙ contents_after p.fields (take p.header_length piece) (contents_at p piece)

-- all of its octets are there
pub is_whole_element : (w : WalkerState) (piece : List ℕ) (p : WholePrimitive) → CanPass w piece p
    → IsWholeElement (header_at p piece) (take p.octet_count piece)
is_whole_element w piece p can = record {
  header =
      ap₂ (λ (l r : List ℕ). l ++ r) (take-append-drop p.fields.id_len (take p.header_length piece))
      (contents_whole w piece p can)
      ∙ sym (whole_octets w piece p can);
  contents = sym (ap length (contents_whole w piece p can) ∙ passed_length w piece p can);
}

-- what a walker becomes that took it, and has yielded so many events
abbrev pub walker_after_primitive : WalkerState → WholePrimitive → ℕ → WalkerState
walker_after_primitive w p n = record w { offset = w.offset + p.octet_count; events = n; has_element = true }

-- its header begins a primitive
yields_header : (w : WalkerState) (piece : List ℕ) (p : WholePrimitive) → CanPass w piece p
    → Continues w
    (after_header w (InPrimitive (announced_length p.fields.size))
    (p.fields.offset + length (take p.header_length piece)))
    (take p.header_length piece) (Begin (header_at p piece) ∷ [])
yields_header w piece p can =
    let f : HeaderFields = p.fields in
    let o : List ℕ = take p.header_length piece in
    let form : (f.constructed || is_wrapper f.named f.class f.constructed f.number f.size) ≡ false =
    ap₂ (λ (c n : Bool). c || is_wrapper n f.class c f.number f.size) can.primitive can.begins.begins.named in
    let end : w.offset + p.octet_count ≡ f.offset + length o + announced_length f.size =
    omega (arith, can.begins.begins.offset, can.octet_count, length-take-le p.header_length piece can.begins.within) in
    takes_at_once w _ piece false f p.header_length o kind.Primitive can.phase can.begins refl (sym can.unnamed)
    (λ e. absurd (true≢false (sym e ∙ form)))
    (subst (IsWithin (bound_of w.stack)) end can.fits) (form, refl)

pub yields_primitive : (w : WalkerState) (piece : List ℕ) (p : WholePrimitive) (n : ℕ) → CanPass w piece p
    → Continues w (walker_after_primitive w p n) (take p.octet_count piece)
    (whole_events (header_at p piece) (take p.octet_count piece))
yields_primitive w piece p n can =
    let f : HeaderFields = p.fields in
    let o : List ℕ = take p.header_length piece in
    let c : List ℕ = contents_at p piece in
    let size : length c ≡ announced_length f.size = passed_length w piece p can in
    let offset : ℕ = f.offset + length o in
    let u : WalkerState = after_header w (InPrimitive (announced_length f.size)) offset in
    let v : PhaseValue → ℕ → WalkerState = λ q k. record w { phase = q; offset = k; events = n; has_element = true } in
    let end : offset + length c ≡ w.offset + p.octet_count =
    omega (
      arith,
      can.begins.begins.offset,
      can.octet_count,
      length-take-le p.header_length piece can.begins.within,
      size,
    ) in
    let both : Continues w (v Between (offset + length c)) (o ++ c)
    (Begin (header_at p piece) ∷ Bytes c ∷ End ∷ []) =
    continues_both w u _ o c (Begin (header_at p piece) ∷ []) (Bytes c ∷ End ∷ []) (yields_header w piece p can)
    (yields_passed u c n (ap InPrimitive (sym size))) in
    subst
    (λ (q : PhaseValue). Continues w (v q (w.offset + p.octet_count)) (take p.octet_count piece)
    (whole_events (header_at p piece) (take p.octet_count piece)))
    (sym can.phase)
    (subst
    (λ (k : ℕ). Continues w (v Between k) (take p.octet_count piece)
    (whole_events (header_at p piece) (take p.octet_count piece)))
    end
    (subst
    (λ (l : List ℕ). Continues w (v Between (offset + length c)) (take p.octet_count piece)
    (Begin (header_at p piece) ∷ Bytes l ∷ End ∷ []))
    (sym (contents_whole w piece p can))
    (subst
    (λ (l : List ℕ). Continues w (v Between (offset + length c)) l
    (Begin (header_at p piece) ∷ Bytes c ∷ End ∷ []))
    (sym (whole_octets w piece p can)) both)))
