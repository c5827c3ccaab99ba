-- From each state some tokens lead to the end of a body.
use Rattle.std.proofs.Common.{◌≡◌, List, [], ◌∷◌, ◌++◌, Option, Some, refl, ap, ◌∙◌}
use Rattle.hp_tree.specs.declared.term.Term.{Term}
use Rattle.hp_tree.specs.declared.problem.Atom.{Atom}
use Rattle.hp_tree.specs.declared.problem.Cmp.{Cmp}
use Rattle.hp_tree.specs.declared.problem.Cmp.TheVariants.{Eq}
use Rattle.hp_text.specs.declared.token.Kind.TheVariants as kinds
use Rattle.hp_body.specs.declared.state.Front.TheVariants.{Nothing}
use Rattle.hp_body.specs.declared.state.Mode.{Mode}
use Rattle.hp_body.specs.declared.state.Mode.TheVariants.{Part}
use Rattle.hp_body.specs.declared.state.Frame.{Frame}
use Rattle.hp_body.specs.declared.body.Place.{Place}
use Rattle.hp_body.specs.declared.body.Place.TheVariants.{First, Guard, Bare, Head}
use Rattle.hp_body.specs.declared.body.Side.{Side}
use Rattle.hp_body.specs.declared.body.Side.TheVariants.{Left, Right}
use Rattle.hp_body.specs.declared.body.Body.{Body}
use Rattle.hp_body.specs.declared.body.Body.TheVariants.{Reading, Closed}
use Rattle.hp_grammar.specs.declared.symbol.Symbol.{Symbol as Token}
use Rattle.hp_grammar.specs.declared.symbol.Symbol.TheVariants.{Word as word}
use Rattle.hp_grammar.specs.Token.{same, AreTokens}
use Rattle.hp_grammar.specs.Bodies.{atom_of, relation, SpellsBody}
use Rattle.hp_grammar.specs.Runs.{◌and_then◌, runs}
use Rattle.hp_body.specs.BodyMachine.{begun, atom_end, at_arrow, last, body_step, body_end, body_word, head_goes, false_goes, and_goes, arrow_goes, or_goes, other_goes}
use Rattle.hp_grammar.proofs.Machines.{bound, runs_on, result_of, are_both, Reads}
use Rattle.hp_body.proofs.Finish.{finishes}
use Rattle.hp_body.proofs.BodyFound.{body_is}
use Rattle.hp_body.proofs.BodyOnly.{run_in_body, body_read, at_relation_word}

pub record Ending (b : Body) : Type 0 where
  pub tokens : List Token
  pub guard : List Atom
  pub head : List Atom
  pub result : result_of body_step body_end b tokens ≡ Some (guard, head)
  pub real : AreTokens tokens

-- tokens in front of what has an ending
led : (b c : Body) (u : List Token) → AreTokens u → runs body_step b u ≡ Some c → Ending c → Ending b
led b c u h e k = record {
  tokens = u ++ k.tokens;
  real = are_both u k.tokens h k.real;
  guard = k.guard;
  head = k.head;
  result = ap (λ o. o and_then body_end) (runs_on body_step u k.tokens b c e) ∙ k.result;
}

place_ending : (p : Place) (d : Side) (m : Mode) (a : Atom) → atom_end d m [] ≡ Some a → Ending (Reading p d m [])
unfolding same body_word head_goes false_goes and_goes arrow_goes or_goes other_goes
place_ending First d m a e = record { tokens = []; real = tt; guard = []; head = a ∷ []; result = ap (λ o. o and_then last First) e }
place_ending (Guard bs) d m a e = led (Reading (Guard bs) d m []) (Closed (bs ++ a ∷ [])) (word kinds.Arrow ∷ word kinds.False ∷ []) (refl, (refl, tt))
    (ap (λ (o : Option Atom). (o and_then λ b. at_arrow (Guard bs) b and_then λ q. Some (begun q)) and_then λ c. runs body_step c (word kinds.False ∷ [])) e)
    (record { tokens = []; real = tt; guard = bs ++ a ∷ []; head = []; result = refl })
place_ending (Bare g) d m a e = record { tokens = []; real = tt; guard = g; head = a ∷ []; result = ap (λ o. o and_then last (Bare g)) e }
place_ending (Head g bs) d m a e = record { tokens = []; real = tt; guard = g; head = bs ++ a ∷ []; result = ap (λ o. o and_then last (Head g bs)) e }

right_ending : (p : Place) (t : Term) (c : Cmp) (m : Mode) (fs : List Frame) → Ending (Reading p (Right t c) m fs)
right_ending p t c m fs =
    let k = finishes m fs in
    led _ (Reading p (Right t c) k.last []) k.tokens k.real (run_in_body k.tokens p (Right t c) (m, fs) (k.last, []) k.goes)
    (place_ending p (Right t c) k.last (atom_of t c k.term) (ap (λ o. o and_then λ b. Some (atom_of t c b)) k.ended))

ending : (b : Body) → Ending b
unfolding same relation body_word head_goes false_goes and_goes arrow_goes or_goes other_goes
ending (Closed g) = record { tokens = []; real = tt; guard = g; head = []; result = refl }
ending (Reading p (Right t c) m fs) = right_ending p t c m fs
ending (Reading p Left m fs) =
    let k = finishes m fs in
    led _ (Reading p Left k.last []) k.tokens k.real (run_in_body k.tokens p Left (m, fs) (k.last, []) k.goes)
    (led _ (Reading p (Right k.term Eq) (Part Nothing) []) (word kinds.Equal ∷ []) (refl, tt)
    (ap (λ o. o and_then λ b. Some b) (at_relation_word kinds.Equal Eq p k.last k.term refl k.ended))
    (right_ending p k.term Eq (Part Nothing) []))

abbrev pub SpellsPair : List Token → List Atom × List Atom → Type 0
SpellsPair u r = SpellsBody u r.0 r.1

pub bodies_read : Reads body_step body_end (begun First) SpellsPair
bodies_read = record {
  found = λ u r e. let b = bound (runs body_step (begun First) u) body_end r e in body_is u b.0 r b.1 b.2;
  only = λ u r h. body_read u r.0 r.1 h;
  ends = λ b. let k = ending b in (k.tokens, (k.guard, k.head), k.real, k.result);
}
