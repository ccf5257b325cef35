-- Which findings are listed, case by case.
use Rattle.std.proofs.Common.{◌≡◌, ◌≢◌, ◌⊎◌, inl, inr, true, false, refl, ap}
use Rattle.tlv_value.specs.declared.finding.Finding.{Finding}
use Rattle.tlv_value.specs.declared.finding.Finding.TheVariants.{B01, B02, B03, B04, B05, B06, B07, B08, B09}
use Rattle.tlv_value.specs.declared.finding.Finding.TheVariants.{B10, B11, B12, B13, B14, B15, B16, B17, B18}
use Rattle.tlv_value.specs.declared.finding.Finding.TheVariants.{B19, B20, B21, B22, B23, B24, B25, B26, B27}
use Rattle.tlv_value.specs.declared.finding.Finding.TheVariants.{B28, B29, B30, S01, S02, S03, S04, S05, S06}
use Rattle.tlv_value.specs.declared.finding.Finding.TheVariants.{D01, D02, C01, C02, C03, C04, C05, C06}
use Rattle.tlv_value.specs.AllChecks.{is_listed}

pub unlisted : (x : Finding)
    → (x ≡ B20) ⊎ (x ≡ B21) ⊎ (x ≡ B22) ⊎ (x ≡ B23) ⊎ (x ≡ B24) ⊎ (x ≡ B25) ⊎ (x ≡ B26) ⊎ (x ≡ B27) ⊎ (x ≡ B28)
    ⊎ (x ≡ B29) ⊎ (x ≡ B30) ⊎ (x ≡ S05) ⊎ (x ≡ S06)
    → is_listed x ≡ false
unlisted x (inl e) = ap is_listed e
unlisted x (inr (inl e)) = ap is_listed e
unlisted x (inr (inr (inl e))) = ap is_listed e
unlisted x (inr (inr (inr (inl e)))) = ap is_listed e
unlisted x (inr (inr (inr (inr (inl e))))) = ap is_listed e
unlisted x (inr (inr (inr (inr (inr (inl e)))))) = ap is_listed e
unlisted x (inr (inr (inr (inr (inr (inr (inl e))))))) = ap is_listed e
unlisted x (inr (inr (inr (inr (inr (inr (inr (inl e)))))))) = ap is_listed e
unlisted x (inr (inr (inr (inr (inr (inr (inr (inr (inl e))))))))) = ap is_listed e
unlisted x (inr (inr (inr (inr (inr (inr (inr (inr (inr (inl e)))))))))) = ap is_listed e
unlisted x (inr (inr (inr (inr (inr (inr (inr (inr (inr (inr (inl e))))))))))) = ap is_listed e
unlisted x (inr (inr (inr (inr (inr (inr (inr (inr (inr (inr (inr (inl e)))))))))))) = ap is_listed e
unlisted x (inr (inr (inr (inr (inr (inr (inr (inr (inr (inr (inr (inr e)))))))))))) = ap is_listed e

pub listed : (x : Finding) → x ≢ B20 → x ≢ B21 → x ≢ B22 → x ≢ B23 → x ≢ B24 → x ≢ B25 → x ≢ B26 → x ≢ B27 → x ≢ B28
    → x ≢ B29 → x ≢ B30 → x ≢ S05 → x ≢ S06 → is_listed x ≡ true
listed B01 a b c d e f g h i j k l m = refl
listed B02 a b c d e f g h i j k l m = refl
listed B03 a b c d e f g h i j k l m = refl
listed B04 a b c d e f g h i j k l m = refl
listed B05 a b c d e f g h i j k l m = refl
listed B06 a b c d e f g h i j k l m = refl
listed B07 a b c d e f g h i j k l m = refl
listed B08 a b c d e f g h i j k l m = refl
listed B09 a b c d e f g h i j k l m = refl
listed B10 a b c d e f g h i j k l m = refl
listed B11 a b c d e f g h i j k l m = refl
listed B12 a b c d e f g h i j k l m = refl
listed B13 a b c d e f g h i j k l m = refl
listed B14 a b c d e f g h i j k l m = refl
listed B15 a b c d e f g h i j k l m = refl
listed B16 a b c d e f g h i j k l m = refl
listed B17 a b c d e f g h i j k l m = refl
listed B18 a b c d e f g h i j k l m = refl
listed B19 a b c d e f g h i j k l m = refl
listed B20 a b c d e f g h i j k l m = absurd (a refl)
listed B21 a b c d e f g h i j k l m = absurd (b refl)
listed B22 a b c d e f g h i j k l m = absurd (c refl)
listed B23 a b c d e f g h i j k l m = absurd (d refl)
listed B24 a b c d e f g h i j k l m = absurd (e refl)
listed B25 a b c d e f g h i j k l m = absurd (f refl)
listed B26 a b c d e f g h i j k l m = absurd (g refl)
listed B27 a b c d e f g h i j k l m = absurd (h refl)
listed B28 a b c d e f g h i j k l m = absurd (i refl)
listed B29 a b c d e f g h i j k l m = absurd (j refl)
listed B30 a b c d e f g h i j k l m = absurd (k refl)
listed S01 a b c d e f g h i j k l m = refl
listed S02 a b c d e f g h i j k l m = refl
listed S03 a b c d e f g h i j k l m = refl
listed S04 a b c d e f g h i j k l m = refl
listed S05 a b c d e f g h i j k l m = absurd (l refl)
listed S06 a b c d e f g h i j k l m = absurd (m refl)
listed D01 a b c d e f g h i j k l m = refl
listed D02 a b c d e f g h i j k l m = refl
listed C01 a b c d e f g h i j k l m = refl
listed C02 a b c d e f g h i j k l m = refl
listed C03 a b c d e f g h i j k l m = refl
listed C04 a b c d e f g h i j k l m = refl
listed C05 a b c d e f g h i j k l m = refl
listed C06 a b c d e f g h i j k l m = refl
