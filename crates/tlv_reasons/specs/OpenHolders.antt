-- The open elements, selected by their lengths.
use Rattle.std.specs.Prelude.{ℕ, ◌-◌, Bool, not, if◌then◌else◌, List, [], ◌∷◌, Option, Some, count_by, find, length}
use Rattle.std.specs.Prelude.{slice_get, unwrap_or}
use Rattle.std.specs.Option.{is_some}
use Rattle.tlv_reasons.specs.declared.element.Element.{Element}
use Rattle.tlv_reasons.specs.declared.facts.Facts.{Facts}

-- the innermost open element
abbrev pub innermost_holder : Facts → Option Element
innermost_holder facts = slice_get facts.holders.items (length facts.holders.items - 1)

-- 8.1.3.3: the length is definite
abbrev pub has_end : Element → Bool
has_end e = is_some e.end

-- 8.1.3.3: where the contents end, if the length is definite
abbrev pub element_end : Element → ℕ
element_end e = unwrap_or e.end 0

-- the outermost of these elements that has a definite length
abbrev pub outermost_definite : List Element → Option Element
outermost_definite es = find has_end es

-- the innermost of these elements that has a definite length, or the element found outside of them
abbrev pub innermost_definite : Option Element → List Element → Option Element
innermost_definite found [] = found
innermost_definite found (e ∷ es) = innermost_definite (if has_end e then Some e else found) es

-- 8.1.3.6: the number of these elements that have the indefinite length
abbrev pub indefinite_count : List Element → ℕ
indefinite_count es = count_by (λ e. not (has_end e)) es
