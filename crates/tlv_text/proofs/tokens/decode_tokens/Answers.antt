use Rattle.std.proofs.Common.{◌≡◌, ◌&&◌, ◌++◌, ◌∷◌, [], false, not, rules, slice_index}
use Rattle.std.specs.Prelude.{nat_le}
use Rattle.tlv_text.proofs.Slices.{slice_from}
use Rattle.tlv_text.proofs.TokenLemmas.{other-read, token-read}
use Rattle.tlv_text.specs.Tokens.{begins_like_token, is_word, pieces, tokens_in}
use Rattle.tlv_text.proofs.tokens.decode_tokens.Goals.{then-begins_like_token, else-begins_like_token+then-begun}
use Rattle.tlv_text.proofs.tokens.decode_tokens.Goals.{else-begins_like_token+else-begun, then-begun-2, else-begun-2}
use Rattle.tlv_text.proofs.tokens.decode_tokens.Goals as goal

pub loop-rest-preserved-in-Some : goal.loop-rest-preserved-in-Some
loop-rest-preserved-in-Some c =
    let i = c.loop-rest.invariant in
    let pushed : c.push.new.self.items ≡ c.loop-rest.octets.items ++ c.in-Some.token.octet ∷ [] = search rules in
    record {
      read = rw pushed (token-read _ c.loop-rest.begun c.loop-rest.before c.loop-rest.octets.items c.loop-rest.rest.now
          c.in-Some.token c.in-len1-up.len_at_least c.in-Some.ensures.token i.read);
      less = search rules;
    }

pub loop-rest-preserved : goal.loop-rest-preserved
loop-rest-preserved c =
    let i = c.loop-rest.invariant in
    let text = c.loop-rest.rest.now in
    let x = slice_index text 0 in
    let unlike : begins_like_token c.loop-rest.before text ≡ false =
    elim c.if-begins_like_token.branch [
      | then-begins_like_token w ↦ search rules
      | else-begins_like_token+then-begun w ↦ search rules
      | else-begins_like_token+else-begun w ↦ search rules
    ] in
    let alone : (c.loop-rest.begun && (is_word x && nat_le 1 (tokens_in (pieces 0 x (slice_from 1 text))))) ≡ false =
    elim c.if-begins_like_token.branch [
      | then-begins_like_token w ↦ search rules
      | else-begins_like_token+then-begun w ↦ search rules
      | else-begins_like_token+else-begun w ↦ search rules
    ] in
    let next : c.if-begun-2.begun ≡ (c.loop-rest.begun && not (is_word x)) =
    elim c.if-begun-2.branch [ then-begun-2 w ↦ search rules | else-begun-2 w ↦ search rules ] in
    record {
      read = rw next (other-read _ c.loop-rest.begun c.loop-rest.before c.loop-rest.octets.items text
          c.in-len1-up.len_at_least c.in-None.ensures.token unlike alone i.read);
      less = search rules;
    }
