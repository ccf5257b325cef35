use Rattle.tlv_text.proofs.PemLemmas.{body-found, body-to_end}
use Rattle.tlv_text.proofs.pem.split_body.Goals as goal

pub returns-in-Some : goal.returns-in-Some
returns-in-Some c =
    rw (c.split_at.ensures.front, c.split_at.ensures.back)
    (body-found c.args.after.now c.first_hyphen-start.result c.in-Some.length c.first_hyphen-start.ensures.within
    c.first_hyphen-start.ensures.none c.in-Some.ensures)

pub returns-in-None : goal.returns-in-None
returns-in-None c =
    rw (c.split_at-in-None.ensures.front, c.split_at-in-None.ensures.back)
    (body-to_end c.args.after.now c.first_hyphen-start.result c.first_hyphen-start.ensures.within
    c.first_hyphen-start.ensures.none c.in-None.ensures)
