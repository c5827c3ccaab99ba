-- What lines say that are added one after the other.
use Rattle.std.proofs.Common.{◌≡◌, ◌↔◌, List, [], ◌∷◌, Ok, subst}
use Rattle.std.specs.List.{All}
use Rattle.std.proofs.lemmas.List.Elements.{All-cons, All-head, All-nil, All-tail, All-weaker}
use Rattle.hp_tree.specs.Value.{Environment, Functions}
use Rattle.hp_lit.specs.Sorts.{HaveSorts}
use Rattle.hp_lit.specs.Truth.{Values}
use Rattle.hp_defs.specs.declared.names.Ground.{Ground}
use Rattle.hp_defs.specs.Made.{IsMade}
use Rattle.hp_defs.specs.Names.{BeginsNames, NameList, sorts}
use Rattle.hp_base.specs.Making.{Begins, Maker, in_turn}
use Rattle.hp_base.proofs.ArgsSteps.{gave}
use Rattle.hp_base.proofs.Growing.{came}
use Rattle.hp_base.proofs.Making.{begins_names, begins_same, begins_trans}
use Rattle.hp_norm.specs.Sound.{AreTrue, AreValues, IsLater, IsSound}

pub later_than : (mid after end : Ground) → Begins mid after → IsLater after end → IsLater mid end
later_than mid after end b l = record { begins = begins_trans mid after end b l.begins; made = l.made }

-- the added lines are true exactly where this holds
pub record Adds (Holds : Environment → Functions → Values → Type 0) (before after : Ground) : Type 0 where
  pub begins : Begins before after
  pub sound : IsSound after
  pub says : (end : Ground) (v : Values) (env : Environment) (functions : Functions) → IsLater after end → AreValues end v env functions → HaveSorts (sorts end.names) v
      → AreTrue v after.lines ↔ (AreTrue v before.lines × Holds env functions v)

module _ {X : Type 0} (f : X → Maker (Unit {0})) (Fits : NameList → X → Type 0) (Holds : X → Environment → Functions → Values → Type 0)
    (stays : (x : X) (old new : NameList) → BeginsNames old new → IsMade new → Fits old x → Fits new x)
    (step : (x : X) (done : Unit {0}) (before after : Ground) → IsSound before → Fits before.names x → f x before ≡ Ok (done, after) → Adds (Holds x) before after) where
  abbrev HoldAll : List X → Environment → Functions → Values → Type 0
  HoldAll xs env functions v = All (λ x. Holds x env functions v) xs

  adds_none : (g : Ground) → IsSound g → Adds (HoldAll []) g g
  adds_none g sound = record {
    begins = begins_same g;
    sound = sound;
    says = λ end v env functions later values have. (λ h. (h, All-nil (λ x. Holds x env functions v)), λ h. h.0);
  }

  adds_more : (x : X) (xs : List X) (a b c : Ground) → Adds (Holds x) a b → Adds (HoldAll xs) b c → Adds (HoldAll (x ∷ xs)) a c
  adds_more x xs a b c one rest = record {
    begins = begins_trans a b c one.begins rest.begins;
    sound = rest.sound;
    says = λ end v env functions later values have.
        let P = λ (y : X). Holds y env functions v in
        let first = one.says end v env functions (later_than b c end rest.begins later) values have in
        let more = rest.says end v env functions later values have in
        (λ h. let m = more.0 h in let n = first.0 m.0 in (n.0, All-cons P x xs n.1 m.1), λ h. more.1 (first.1 (h.0, All-head P x xs h.1), All-tail P x xs h.1));
  }

  pub adds_turns : (xs : List X) (done : Unit {0}) (before after : Ground) → IsSound before → All (Fits before.names) xs → in_turn f xs before ≡ Ok (done, after)
      → Adds (HoldAll xs) before after
  adds_turns [] done before after sound fit e = subst (Adds (HoldAll []) before) (gave tt done before after e).ground (adds_none before sound)
  adds_turns (x ∷ xs) done before after sound fit e =
      let c = came (f x before) (λ u. in_turn f xs) done after e in
      let one = step x c.value before c.mid sound (All-head (Fits before.names) x xs fit) c.first in
      let later = All-weaker (Fits before.names) (Fits c.mid.names) (λ y h. stays y before.names c.mid.names (begins_names before c.mid one.begins) one.sound.made h) xs (All-tail (Fits before.names) x xs fit) in
      adds_more x xs before c.mid after one (adds_turns xs done c.mid after one.sound later c.rest)
