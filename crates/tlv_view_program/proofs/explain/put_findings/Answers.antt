use Rattle.std.proofs.Common.{◌≡◌, ◌++◌, ℕ, List, append_assoc, ap, rules, sym, ◌∙◌}
use Rattle.std.specs.Prelude.{codes}
use Rattle.tlv_io.proofs.Puts.{puts_failed, puts_text, puts_then}
use Rattle.tlv_view_program.specs.Reasons.{findings_line, findings_words}
use Rattle.tlv_view_program.proofs.explain.put_findings.Goals as goal

-- five texts, one after another, are two and two, and one
five-texts : (a b c d e : List ℕ) → a ++ (b ++ (c ++ (d ++ e))) ≡ ((a ++ b) ++ (c ++ d)) ++ e
five-texts a b c d e =
    sym (append_assoc a b (c ++ (d ++ e))) ∙ ap (λ (l : List ℕ). (a ++ b) ++ l) (sym (append_assoc c d e))
    ∙ sym (append_assoc (a ++ b) (c ++ d) e)

-- the texts that are put make the line
texts-of-line : (ber der : List ℕ)
    → codes "By the rules of BER: "
    ++ (findings_words ber ++ (codes ". By those of DER: " ++ (findings_words der ++ codes ".\n")))
    ≡ findings_line ber der
texts-of-line ber der =
    five-texts (codes "By the rules of BER: ") (findings_words ber) (codes ". By those of DER: ") (findings_words der)
    (codes ".\n")

pub returns-in_err-put : goal.returns-in_err-put
returns-in_err-put g c = puts_failed g.D.Drain.state _ _ _ _ _ _ c.in_err-put.ensures.puts (search rules)

pub returns-in_err-put-2 : goal.returns-in_err-put-2
returns-in_err-put-2 g c =
    let ber = rw c.findings_words.ensures at c.in_err-put-2.ensures.puts in
    puts_text g.D.Drain.state _ _ _ _ _ (texts-of-line c.args.ber.now c.args.der.now)
    (puts_then g.D.Drain.state _ _ _ _ _ tt _ c.in_ok-put.ensures.puts
    (puts_failed g.D.Drain.state _ _ _ _ _ _ ber (search rules)))

pub returns-in_err-put-3 : goal.returns-in_err-put-3
returns-in_err-put-3 g c =
    let ber = rw c.findings_words.ensures at c.in_ok-put-2.ensures.puts in
    puts_text g.D.Drain.state _ _ _ _ _ (texts-of-line c.args.ber.now c.args.der.now)
    (puts_then g.D.Drain.state _ _ _ _ _ tt _ c.in_ok-put.ensures.puts
    (puts_then g.D.Drain.state _ _ _ _ _ tt _ ber
    (puts_failed g.D.Drain.state _ _ _ _ _ _ c.in_err-put-3.ensures.puts (search rules))))

pub returns-in_err-put-4 : goal.returns-in_err-put-4
returns-in_err-put-4 g c =
    let ber = rw c.findings_words.ensures at c.in_ok-put-2.ensures.puts in
    let der = rw c.findings_words-2.ensures at c.in_err-put-4.ensures.puts in
    puts_text g.D.Drain.state _ _ _ _ _ (texts-of-line c.args.ber.now c.args.der.now)
    (puts_then g.D.Drain.state _ _ _ _ _ tt _ c.in_ok-put.ensures.puts
    (puts_then g.D.Drain.state _ _ _ _ _ tt _ ber
    (puts_then g.D.Drain.state _ _ _ _ _ tt _ c.in_ok-put-3.ensures.puts
    (puts_failed g.D.Drain.state _ _ _ _ _ _ der (search rules)))))

pub returns : goal.returns
returns g c =
    let ber = rw c.findings_words.ensures at c.in_ok-put-2.ensures.puts in
    let der = rw c.findings_words-2.ensures at c.in_ok-put-4.ensures.puts in
    puts_text g.D.Drain.state _ _ _ _ _ (texts-of-line c.args.ber.now c.args.der.now)
    (puts_then g.D.Drain.state _ _ _ _ _ tt _ c.in_ok-put.ensures.puts
    (puts_then g.D.Drain.state _ _ _ _ _ tt _ ber
    (puts_then g.D.Drain.state _ _ _ _ _ tt _ c.in_ok-put-3.ensures.puts
    (puts_then g.D.Drain.state _ _ _ _ _ tt _ der c.put-5.ensures.puts))))
