use Rattle.tlv_reasons.proofs.start.contents_size.Goals as goal

pub returns-in-Indefinite-clause-indefinite : goal.returns-in-Indefinite-clause-indefinite
returns-in-Indefinite-clause-indefinite c n _ breaks some = c.indefinite_size.ensures.size n breaks some
