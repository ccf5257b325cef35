-- A primitive changes nothing if no frame needs more octets, and it is not directly in a SET.
use Rattle.std.proofs.Common.{◌≡◌, ℕ, true, false, List, length, reverse, sym, ap, ap₂, ◌∙◌}
use Rattle.tlv_head.specs.Header.{octets_of}
use Rattle.tlv_show.specs.declared.set_frame.SetFrame.{SetFrame}
use Rattle.tlv_show.specs.Private.SetOrder.{NeedNoOctets, IsUnchangedByPrimitives}
use Rattle.tlv_show.specs.SetOrderState.{SetOrderState, is_direct, has_all_compared, set_order_end_step, set_order_octets_step}
use Rattle.tlv_show.proofs.SetOrderLemmas.Compared.{full-stays}
use Rattle.tlv_show.proofs.SetOrderLemmas.KeptFrames.{after_all_full, reverse_after}
use Rattle.tlv_show.proofs.SetOrderLemmas.OneElement.{ended-inside, started-inside}

module _ (w : SetFrame) (outer : List SetFrame) (direct : is_direct w ≡ false) (full : has_all_compared w ≡ true)
    (all : NeedNoOctets (length outer) outer) where
  abbrev kept : SetOrderState
  kept = record { frame = w; outer = reverse outer }

  octets-pass : (octets : List ℕ) → set_order_octets_step kept octets ≡ kept
  octets-pass octets =
      ap₂ (λ (v : SetFrame) (l : List SetFrame). record { frame = v; outer = l }) (full-stays w octets full)
      (sym (reverse_after octets outer) ∙ ap reverse (after_all_full octets outer all))

  pub primitives-pass : IsUnchangedByPrimitives kept
  primitives-pass = (
    direct,
    λ rules h c.
        ap
        (λ (s : SetOrderState). set_order_end_step (set_order_octets_step (set_order_octets_step s (octets_of h)) c))
        (started-inside rules kept h direct)
        ∙ ap (λ (s : SetOrderState). set_order_end_step (set_order_octets_step s c)) (octets-pass (octets_of h))
        ∙ ap set_order_end_step (octets-pass c)
        ∙ ended-inside rules kept direct,
  )
