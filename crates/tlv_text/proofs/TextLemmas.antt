-- The symbols of a text, those of whole groups and the last ones.
use Rattle.std.proofs.Common.{◌≡◌, ℕ, ◌+◌, ◌-◌, ◌*◌, ◌/◌, ◌%◌, ◌≤◌, List, [], ◌++◌, length, take}
use Rattle.std.proofs.Common.{drop, refl, ap, sym, ◌∙◌, arith, subst, Option, Some, None}
use Rattle.std.proofs.Math.Seq.{drop-append_seam, take-append-add}
use Rattle.std.proofs.lemmas.List.{append-nil, append_assoc, get_or-drop, length-append, length-take-le}
use Rattle.std.proofs.lemmas.List.{take-append-drop}
use Rattle.base64.specs.Engines.{standard_no_pad, url_safe_no_pad}
use Rattle.base64.specs.GeneralPurpose.{IsBytes}
use Rattle.base64.specs.Rfc4648.{unpadded_len}
use Rattle.base64.proofs.EngineFacts.{encode_of-append, encode_of-nil}
use Rattle.base64.proofs.RoundTrip.{length-encode_symbols}
use Rattle.tlv_text.specs.Base64.{IsBase64, ReadsBase64, SymbolsRead, base64_of, fits_after, padding_of}
use Rattle.tlv_text.specs.Base64.{symbols_read, whole_groups}
use Rattle.tlv_text.specs.Private.SymbolSteps.{AreAdded, IsAtEnd, IsOfNone, PaddingFits, symbols_then}
use Rattle.tlv_text.specs.declared.base64_text.Alphabet.{Alphabet}
use Rattle.tlv_text.specs.declared.base64_text.Alphabet.TheVariants.{Standard, UrlSafe}
use Rattle.tlv_text.proofs.GroupLemmas.{bytes-append, bytes-nil, encodes, plain}

-- these octets are those of whole groups, and the rest of the text comes after them
pub record IsReadSoFar (alphabet : Alphabet) (text octets rest : List ℕ) : Type 0 where
  pub read : symbols_read alphabet text ≡ symbols_then (base64_of alphabet octets) (symbols_read alphabet rest)
  pub are_octets : IsBytes octets
  pub whole : length octets % 3 ≡ 0
  pub less : length rest ≤ length text

-- ---- base64 of octets, and of others after them

base64-append : (alphabet : Alphabet) (a b : List ℕ) → length a % 3 ≡ 0
    → base64_of alphabet (a ++ b) ≡ base64_of alphabet a ++ base64_of alphabet b
base64-append Standard a b whole = encode_of-append standard_no_pad a b whole
base64-append UrlSafe a b whole = encode_of-append url_safe_no_pad a b whole

pub base64-nil : (alphabet : Alphabet) → base64_of alphabet [] ≡ []
base64-nil Standard = encode_of-nil standard_no_pad
base64-nil UrlSafe = encode_of-nil url_safe_no_pad

pub base64-length : (alphabet : Alphabet) (a : List ℕ) → length (base64_of alphabet a) ≡ unpadded_len (length a)
base64-length alphabet a =
    ap (λ (s : List ℕ). length s) (plain alphabet a) ∙ length-encode_symbols (encodes alphabet) a

bytes-drop : (n : ℕ) (a : List ℕ) → IsBytes a → IsBytes (drop n a)
bytes-drop n a bytes i = rw (get_or-drop n a i 0) (bytes (n + i))

-- what comes after fronts of one length
same-after : (a b c d : List ℕ) → a ++ b ≡ c ++ d → length a ≡ length c → b ≡ d
same-after a b c d e size =
    sym (drop-append_seam a b)
    ∙ ap (λ (s : List ℕ). drop (length a) s) e
    ∙ ap (λ (n : ℕ). drop n (c ++ d)) size
    ∙ drop-append_seam c d

-- octets after whole groups, from the symbols after those
pub after-groups : (alphabet : Alphabet) (octets all symbols : List ℕ) → length octets % 3 ≡ 0
    → base64_of alphabet all ≡ base64_of alphabet octets ++ symbols
    → base64_of alphabet (drop (length octets) all) ≡ symbols
after-groups alphabet octets all symbols whole e =
    let n : ℕ = length octets in
    let sizes : unpadded_len (length all) ≡ unpadded_len n + length symbols =
    sym (base64-length alphabet all)
    ∙ ap (λ (s : List ℕ). length s) e
    ∙ length-append (base64_of alphabet octets) symbols
    ∙ ap (λ (m : ℕ). m + length symbols) (base64-length alphabet octets) in
    let front : length (take n all) ≡ n = length-take-le n all (omega (arith, sizes, whole)) in
    let parts : base64_of alphabet (take n all) ++ base64_of alphabet (drop n all)
    ≡ base64_of alphabet octets ++ symbols =
    sym (base64-append alphabet (take n all) (drop n all) (ap (λ (m : ℕ). m % 3) front ∙ whole))
    ∙ ap (base64_of alphabet) (take-append-drop n all)
    ∙ e in
    same-after (base64_of alphabet (take n all)) (base64_of alphabet (drop n all)) (base64_of alphabet octets) symbols
    parts (base64-length alphabet (take n all) ∙ ap unpadded_len front ∙ sym (base64-length alphabet octets))

-- ---- octets of whole groups, while a text is read

pub none-so_far : (alphabet : Alphabet) (text : List ℕ) → IsReadSoFar alphabet text [] text
none-so_far alphabet text = record {
  read = rw (base64-nil alphabet) refl;
  are_octets = bytes-nil;
  whole = refl;
  less = omega arith;
}

pub symbols-more : (a b : List ℕ) (r : SymbolsRead) → symbols_then a (symbols_then b r) ≡ symbols_then (a ++ b) r
symbols-more a b r =
    ap (λ (symbols : List ℕ). record { symbols = symbols; rest = r.rest }) (sym (append_assoc a b r.symbols))

added-base64 : (alphabet : Alphabet) (symbols old new : List ℕ) → length old % 3 ≡ 0 → AreAdded alphabet symbols old new
    → base64_of alphabet new ≡ base64_of alphabet old ++ symbols
added-base64 alphabet symbols old new whole a =
    ap (base64_of alphabet) a.added
    ∙ base64-append alphabet old a.more whole
    ∙ ap (λ (s : List ℕ). base64_of alphabet old ++ s) a.symbols_of

added-bytes : (alphabet : Alphabet) (symbols old new : List ℕ) → IsBytes old → AreAdded alphabet symbols old new
    → IsBytes new
added-bytes alphabet symbols old new bytes a =
    subst IsBytes (sym a.added) (bytes-append old a.more bytes a.are_octets)

pub more-so_far : (alphabet : Alphabet) (text octets rest symbols new left : List ℕ)
    → IsReadSoFar alphabet text octets rest
    → symbols_read alphabet rest ≡ symbols_then symbols (symbols_read alphabet left)
    → length symbols % 4 ≡ 0 → length left ≤ length rest
    → AreAdded alphabet symbols octets new
    → IsReadSoFar alphabet text new left
more-so_far alphabet text octets rest symbols new left s e whole less a =
    let size : unpadded_len (length a.more) ≡ length symbols =
    sym (base64-length alphabet a.more) ∙ ap (λ (t : List ℕ). length t) a.symbols_of in
    record {
      read = s.read
          ∙ ap (symbols_then (base64_of alphabet octets)) e
          ∙ symbols-more (base64_of alphabet octets) symbols (symbols_read alphabet left)
          ∙ ap (λ (t : List ℕ). symbols_then t (symbols_read alphabet left))
          (sym (added-base64 alphabet symbols octets new s.whole a));
      are_octets = added-bytes alphabet symbols octets new s.are_octets a;
      whole = omega (arith, s.whole, whole, size, ap (λ (t : List ℕ). length t) a.added, length-append octets a.more);
      less = omega (arith, less, s.less);
    }

-- ---- the last symbols

end-symbols : (alphabet : Alphabet) (text octets symbols rest : List ℕ) → IsAtEnd alphabet text octets symbols rest
    → (symbols_read alphabet text).symbols ≡ base64_of alphabet octets ++ symbols
end-symbols alphabet text octets symbols rest s =
    ap (λ (r : SymbolsRead). r.symbols) s.read
    ∙ ap (λ (t : List ℕ). base64_of alphabet octets ++ t) (append-nil symbols)

end-rest : (alphabet : Alphabet) (text octets symbols rest : List ℕ) → IsAtEnd alphabet text octets symbols rest
    → (symbols_read alphabet text).rest ≡ rest
end-rest alphabet text octets symbols rest s = ap (λ (r : SymbolsRead). r.rest) s.read

-- padding goes by the symbols of the last group
fits-same : (m n : ℕ) (padding : Option ℕ) → m % 4 ≡ n % 4 → fits_after m padding ≡ fits_after n padding
fits-same m n None e = refl
fits-same m n (Some k) e = rw e refl

end-padding : (alphabet : Alphabet) (text octets symbols rest : List ℕ) → IsAtEnd alphabet text octets symbols rest
    → fits_after (length (symbols_read alphabet text).symbols) (padding_of (symbols_read alphabet text).rest)
    ≡ fits_after (length symbols) (padding_of rest)
end-padding alphabet text octets symbols rest s =
    let size : length (symbols_read alphabet text).symbols ≡ unpadded_len (length octets) + length symbols =
    ap (λ (t : List ℕ). length t) (end-symbols alphabet text octets symbols rest s)
    ∙ length-append (base64_of alphabet octets) symbols
    ∙ ap (λ (m : ℕ). m + length symbols) (base64-length alphabet octets) in
    fits-same (length (symbols_read alphabet text).symbols) (length symbols)
    (padding_of (symbols_read alphabet text).rest) (omega (arith, size, s.whole))
    ∙ ap (λ (t : List ℕ). fits_after (length symbols) (padding_of t)) (end-rest alphabet text octets symbols rest s)

pub whole-text : (alphabet : Alphabet) (text octets symbols rest new : List ℕ)
    → IsAtEnd alphabet text octets symbols rest
    → PaddingFits symbols rest → AreAdded alphabet symbols octets new
    → ReadsBase64 alphabet text new None
whole-text alphabet text octets symbols rest new s fits a = ReadsBase64.whole (record {
  are_octets = added-bytes alphabet symbols octets new s.are_octets a;
  symbols = added-base64 alphabet symbols octets new s.whole a ∙ sym (end-symbols alphabet text octets symbols rest s);
  padding = end-padding alphabet text octets symbols rest s ∙ fits;
})

-- whole groups before others
groups-after : (symbols more : List ℕ) → length symbols % 4 ≡ 0
    → whole_groups (symbols ++ more) ≡ symbols ++ take (length more / 4 * 4) more
groups-after symbols more whole =
    ap (λ (n : ℕ). take n (symbols ++ more)) (omega (arith, whole, length-append symbols more))
    ∙ take-append-add symbols more (length more / 4 * 4)

no-others : (alphabet : Alphabet) (text octets symbols rest : List ℕ) → IsAtEnd alphabet text octets symbols rest
    → (PaddingFits symbols rest → IsOfNone alphabet symbols)
    → (others : List ℕ) → IsBase64 alphabet text others → ⊥
no-others alphabet text octets symbols rest s none others b =
    none (sym (end-padding alphabet text octets symbols rest s) ∙ b.padding) (drop (length octets) others)
    (bytes-drop (length octets) others b.are_octets)
    (after-groups alphabet octets others symbols s.whole (b.symbols ∙ end-symbols alphabet text octets symbols rest s))

pub refused-text : (alphabet : Alphabet) (text octets symbols rest new : List ℕ)
    → IsAtEnd alphabet text octets symbols rest
    → (PaddingFits symbols rest → IsOfNone alphabet symbols)
    → AreAdded alphabet (take (length symbols / 4 * 4) symbols) octets new
    → ReadsBase64 alphabet text new (Some (length text - length rest))
refused-text alphabet text octets symbols rest new s none a =
    let groups : List ℕ = take (length symbols / 4 * 4) symbols in
    let size : length (base64_of alphabet octets) % 4 ≡ 0 = omega (arith, base64-length alphabet octets, s.whole) in
    subst (λ (r : List ℕ). ReadsBase64 alphabet text new (Some (length text - length r)))
    (end-rest alphabet text octets symbols rest s)
    (ReadsBase64.refused (no-others alphabet text octets symbols rest s none)
    (added-bytes alphabet groups octets new s.are_octets a)
    (
    added-base64 alphabet groups octets new s.whole a
    ∙ sym (groups-after (base64_of alphabet octets) symbols size)
    ∙ ap whole_groups (sym (end-symbols alphabet text octets symbols rest s))
    ))
