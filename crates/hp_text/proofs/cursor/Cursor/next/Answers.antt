use Rattle.std.proofs.Common.{◌≡◌, ap, rules}
use Rattle.hp_text.specs.Reading.{Reading}
use Rattle.hp_text.specs.Tokens.{next_from}
use Rattle.hp_text.proofs.LongestTokens.{seen_longest}
use Rattle.hp_text.proofs.cursor.Cursor.next.Goals as goal

pub returns-in_err-token-clause-longest : goal.returns-in_err-token-clause-longest
returns-in_err-token-clause-longest c =
    let same : c.from_residual.result ≡ next_from c.self.inside.bytes.now c.self.inside.at = search rules in
    seen_longest _ _ _ _ (ap (λ (r : Reading). r.bytes) c.self.view_is) c.self.invariant same

pub returns-clause-longest : goal.returns-clause-longest
returns-clause-longest c = seen_longest _ _ _ _ (ap (λ (r : Reading). r.bytes) c.self.view_is) c.self.invariant c.in_ok-token.ensures.token
