-- Classes that need no definitions, and which functions new definitions apply.
use Rattle.std.proofs.Common.{◌≡◌, ℕ, ◌<◌, Bool, List, length, Ok, sym, subst, arith}
use Rattle.std.proofs.lemmas.Option.{slice_get_within}
use Rattle.hp_defs.specs.declared.names.Ground.{Ground}
use Rattle.hp_defs.specs.Names.{NameList}
use Rattle.hp_base.specs.Making.{keep}
use Rattle.hp_base.proofs.ArgsSteps.{gave}
use Rattle.hp_base.proofs.Making.{begins_same}
use Rattle.hp_norm.specs.Sound.{IsSound, MakesOnly}
use Rattle.hp_class.specs.Frame.{is_place}
use Rattle.hp_class.specs.Law.{HasGrown}

pub makes_none : (test : ℕ → Bool) (names : NameList) → MakesOnly test names names
makes_none test names k d func args most there body = absurd (let inside : k < length names.definitions = slice_get_within names.definitions k d there in omega (arith, most, inside))

-- where the names have stayed
pub makes_same : (test : ℕ → Bool) (old new : NameList) → new ≡ old → MakesOnly test old new
makes_same test old new e = subst (MakesOnly test old) (sym e) (makes_none test old)

pub nothing_grown : (funcs : List ℕ) (done : Unit {0}) (before after : Ground) → IsSound before → keep tt before ≡ Ok (done, after) → HasGrown funcs before after
nothing_grown funcs done before after sound e = subst (HasGrown funcs before) (gave tt done before after e).ground (record {
  grew = record { begins = begins_same before; truth = λ end v b hold. (λ h. h, λ h. h) };
  sound = sound;
  few = λ h. h;
  only = makes_none (is_place funcs) before.names;
})
