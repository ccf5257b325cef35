-- Without text beside pairs of digits, the lines of an item are those of `Texts`.
use Rattle.std.proofs.Common.{◌≡◌, false, refl}
use Rattle.tlv_value.specs.declared.layout.Layout.{Layout}
use Rattle.tlv_value.specs.Value.{NameOf}
use Rattle.tlv_value.proofs.TextLemmas.WithoutText.{incomplete-without, whole-without}
use Rattle.tlv_show.specs.Items.{Item, FindingAt, OpeningLine, ClosingLine, PrimitiveLines}
use Rattle.tlv_show.specs.Items.{OpenPrimitiveLines, PaddingLine}
use Rattle.tlv_show.specs.Texts.{item_text, layout_at}
use Rattle.tlv_show.specs.WantedJobs.{item_text_with}

item-without : (name_of : NameOf) (layout : Layout) (item : Item)
    → item_text_with false name_of layout item ≡ item_text name_of layout item
item-without name_of layout (FindingAt depth offset finding) = refl
item-without name_of layout (OpeningLine depth h) = refl
item-without name_of layout (ClosingLine depth offset) = refl
item-without name_of layout (PrimitiveLines depth h c) = whole-without name_of h (layout_at layout depth) c
item-without name_of layout (OpenPrimitiveLines depth h c) = incomplete-without h (layout_at layout depth) c
item-without name_of layout (PaddingLine depth offset) = refl

pub items-without : (name_of : NameOf) (layout : Layout) → item_text_with false name_of layout ≡ item_text name_of layout
items-without name_of layout = λ i item. item-without name_of layout item i
