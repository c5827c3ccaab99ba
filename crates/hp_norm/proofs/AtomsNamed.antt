-- Atoms whose sides are of one sort keep it, and keep their truth, while their terms are named or opened.
use Rattle.std.proofs.Common.{◌≡◌, ◌&&◌, ◌||◌, true, List, [], ◌∷◌, Ok, refl, sym, ap, subst, ◌∙◌}
use Rattle.std.specs.Prelude.{unwrap_or}
use Rattle.std.specs.List.{All, AllZip}
use Rattle.std.specs.Option.{option_or}
use Rattle.std.proofs.lemmas.Bool.{and_from, and_parts}
use Rattle.std.proofs.lemmas.List.Elements.{All-nil, All-cons, All-head, All-tail}
use Rattle.hp_tree.specs.declared.term.Term.{Term}
use Rattle.hp_tree.specs.declared.problem.Sort.{Sort}
use Rattle.hp_tree.specs.declared.problem.Sort.TheVariants.{Num}
use Rattle.hp_tree.specs.declared.problem.Atom.{Atom}
use Rattle.hp_tree.specs.Value.{Environment, Functions, all_true, atom_is_true, compares, one_true}
use Rattle.hp_terms.specs.Scope.{Scope}
use Rattle.hp_terms.specs.Sorting.{atom_is_sorted, forms_of, has_form, is_sorted, relates, sort_of}
use Rattle.hp_lit.specs.Truth.{Values}
use Rattle.hp_defs.specs.declared.names.Ground.{Ground}
use Rattle.hp_base.specs.Making.{Maker, ◌then◌, each, keep}
use Rattle.hp_base.proofs.Growing.{came}
use Rattle.hp_base.proofs.ArgsSteps.{gave}
use Rattle.hp_norm.specs.Loads.{IsLightWithin, WeighsAtMost}
use Rattle.hp_norm.specs.Naming.{named}
use Rattle.hp_norm.specs.Scopes.{term_scope}
use Rattle.hp_norm.specs.Sound.{AreValues, Grew, IsLater}
use Rattle.hp_norm.specs.Laws.{AtomsAreNamed, HasOneSort}
use Rattle.hp_norm.proofs.GroundsGrew.{grew_same, grew_through}
use Rattle.hp_norm.proofs.NamedWords.{same_scope}
use Rattle.hp_norm.proofs.TermsKept.{IsKept, Reading, kept_longer, later_through}
use Rattle.hp_norm.proofs.TermsNamed.{by_names, IsMadeAlways, IsNameableTerm}
use Rattle.hp_norm.proofs.TermsAlways.{terms_are_named}

abbrev pub IsSortedIn : Scope → Atom → Type 0
IsSortedIn scope atom = atom_is_sorted scope atom ≡ true

-- what an atom of a sort has
pub record HasSides (scope : Scope) (sort : Sort) (atom : Atom) : Type 0 where
  pub left : has_form (forms_of scope atom.left) sort ≡ true
  pub right : has_form (forms_of scope atom.right) sort ≡ true
  pub related : relates sort atom.cmp ≡ true

pub has_sides : (scope : Scope) (sort : Sort) (atom : Atom) → is_sorted scope sort atom ≡ true → HasSides scope sort atom
has_sides scope sort atom e =
    let parts = and_parts (has_form (forms_of scope atom.left) sort && has_form (forms_of scope atom.right) sort) (relates sort atom.cmp) e in
    let sides = and_parts (has_form (forms_of scope atom.left) sort) (has_form (forms_of scope atom.right) sort) parts.0 in
    record { left = sides.0; right = sides.1; related = parts.1 }

-- ---- what two atoms have of one another
-- the second is of each sort that the first is of
abbrev pub KeepsSorts : Scope → Scope → Atom → Atom → Type 0
KeepsSorts scope now atom flat = (sort : Sort) → is_sorted scope sort atom ≡ true → is_sorted now sort flat ≡ true

-- they have the same first sort
abbrev pub KeepsFirst : Scope → Scope → Atom → Atom → Type 0
KeepsFirst scope now atom flat = sort_of scope atom ≡ sort_of now flat

-- and the same truth
abbrev pub KeepsTruth : Environment → Functions → Atom → Atom → Type 0
KeepsTruth env functions atom flat = atom_is_true env functions flat ≡ atom_is_true env functions atom

pub atoms_stay_sorted : (scope now : Scope) (atoms flats : List Atom) → AllZip (KeepsSorts scope now) atoms flats → AllZip (KeepsFirst scope now) atoms flats
    → All (IsSortedIn scope) atoms → All (IsSortedIn now) flats
atoms_stay_sorted scope now [] [] keeps first sorted = All-nil (IsSortedIn now)
atoms_stay_sorted scope now [] (flat ∷ flats) keeps first sorted = absurd keeps
atoms_stay_sorted scope now (atom ∷ atoms) [] keeps first sorted = absurd keeps
atoms_stay_sorted scope now (atom ∷ atoms) (flat ∷ flats) keeps first sorted =
    let own = keeps.0 (sort_of scope atom) (All-head (IsSortedIn scope) atom atoms sorted) in
    All-cons (IsSortedIn now) flat flats (subst (λ (sort : Sort). is_sorted now sort flat ≡ true) first.0 own)
    (atoms_stay_sorted scope now atoms flats keeps.1 first.1 (All-tail (IsSortedIn scope) atom atoms sorted))

pub all_stay_true : (env : Environment) (functions : Functions) (atoms flats : List Atom) → AllZip (KeepsTruth env functions) atoms flats → all_true env functions flats ≡ all_true env functions atoms
all_stay_true env functions [] [] same = refl
all_stay_true env functions [] (flat ∷ flats) same = absurd same
all_stay_true env functions (atom ∷ atoms) [] same = absurd same
all_stay_true env functions (atom ∷ atoms) (flat ∷ flats) same = let rest = all_stay_true env functions atoms flats same.1 in (λ i. same.0 i && rest i)

pub one_stays_true : (env : Environment) (functions : Functions) (atoms flats : List Atom) → AllZip (KeepsTruth env functions) atoms flats → one_true env functions flats ≡ one_true env functions atoms
one_stays_true env functions [] [] same = refl
one_stays_true env functions [] (flat ∷ flats) same = absurd same
one_stays_true env functions (atom ∷ atoms) [] same = absurd same
one_stays_true env functions (atom ∷ atoms) (flat ∷ flats) same = let rest = one_stays_true env functions atoms flats same.1 in (λ i. same.0 i || rest i)

-- ---- one atom
-- an atom whose terms are made one after the other
abbrev pub made_atom : (Term → Maker Term) → Atom → Maker Atom
made_atom f atom g =
    f atom.left g then λ left. λ mid.
    f atom.right mid then λ right.
    keep (record { left = left; cmp = atom.cmp; right = right })

module _ (r : Reading) where
  -- an atom that stands for another one once its terms were named
  pub record IsNamedAtom (before after : Ground) (atom flat : Atom) : Type 0 where
    pub grew : Grew before after
    pub over : r.holds after
    pub light : WeighsAtMost r.most atom flat
    pub sorted : (end : Ground) → IsLater after end → KeepsSorts r.own (r.now end.names) atom flat
    pub first : (end : Ground) → IsLater after end → KeepsFirst r.own (r.now end.names) atom flat
    pub same : (end : Ground) (v : Values) (env : Environment) (functions : Functions) → IsLater after end → AreValues end v env functions → KeepsTruth env functions atom flat

  module _ (after : Ground) (atom flat : Atom) (cmp : atom.cmp ≡ flat.cmp) (left : IsKept r after atom.left flat.left) (right : IsKept r after atom.right flat.right) where
    atom_keeps_first : (end : Ground) → IsLater after end → KeepsFirst r.own (r.now end.names) atom flat
    atom_keeps_first end l = λ i. unwrap_or (option_or (left.first end l i) (right.first end l i)) Num

    atom_keeps_sorts : (end : Ground) → IsLater after end → KeepsSorts r.own (r.now end.names) atom flat
    atom_keeps_sorts end l sort e =
        let now = r.now end.names in
        let h = has_sides r.own sort atom e in
        and_from (has_form (forms_of now flat.left) sort && has_form (forms_of now flat.right) sort) (relates sort flat.cmp)
        (and_from (has_form (forms_of now flat.left) sort) (has_form (forms_of now flat.right) sort) ((left.forms end l).sorts sort h.left) ((right.forms end l).sorts sort h.right))
        (ap (relates sort) (sym cmp) ∙ h.related)

    atom_keeps_truth : (end : Ground) (v : Values) (env : Environment) (functions : Functions) → IsLater after end → AreValues end v env functions → KeepsTruth env functions atom flat
    atom_keeps_truth end v env functions l values = λ i. compares (sym cmp i) (left.same end v env functions l values i) (right.same end v env functions l values i)

  atom_to : (atom flat now : Atom) (before mid after : Ground) → flat ≡ now → mid ≡ after → IsNamedAtom before mid atom flat → IsNamedAtom before after atom now
  atom_to atom flat now before mid after e f h = subst (λ (a : Atom). IsNamedAtom before after atom a) e (subst (λ (g : Ground). IsNamedAtom before g atom flat) f h)

  pub atom_named : (f : Term → Maker Term) (atom flat : Atom) (before after : Ground) → ((term : Term) → IsMadeAlways r (f term) term) → HasOneSort r.own atom → IsLightWithin r.own atom → r.holds before
      → made_atom f atom before ≡ Ok (flat, after) → IsNamedAtom before after atom flat
  atom_named f atom flat before after always sorted light over e =
      let sides = has_sides r.own sorted.0 atom sorted.1 in
      let able_left : IsNameableTerm r.own atom.left = record { sorted = record { sort = sorted.0; is = sides.left }; light = light.left } in
      let able_right : IsNameableTerm r.own atom.right = record { sorted = record { sort = sorted.0; is = sides.right }; light = light.right } in
      let s = came (f atom.left before) (λ left. λ mid. f atom.right mid then λ right. keep (record { left = left; cmp = atom.cmp; right = right })) flat after e in
      let h = always atom.left s.value before s.mid able_left over s.first in
      let t = came (f atom.right s.mid) (λ right. keep (record { left = s.value; cmp = atom.cmp; right = right })) flat after s.rest in
      let k = always atom.right t.value s.mid t.mid able_right h.over t.first in
      let own : Atom = record { left = s.value; cmp = atom.cmp; right = t.value } in
      let left = kept_longer r s.mid t.mid atom.left s.value k.grew.begins h.kept in
      let g = gave own flat t.mid after t.rest in
      let less = h.kept.light in
      let fewer = k.kept.light in
      atom_to atom own flat before t.mid after g.value g.ground
      (record {
        grew = grew_through before s.mid t.mid h.grew k.grew;
        over = k.over;
        light = record { left = less; right = fewer };
        sorted = atom_keeps_sorts t.mid atom own refl left k.kept;
        first = atom_keeps_first t.mid atom own refl left k.kept;
        same = atom_keeps_truth t.mid atom own refl left k.kept;
      })

  -- ---- lists of atoms
  pub record AreNamedOver (before after : Ground) (atoms flats : List Atom) : Type 0 where
    pub grew : Grew before after
    pub over : r.holds after
    pub light : AllZip (WeighsAtMost r.most) atoms flats
    pub sorted : (end : Ground) → IsLater after end → AllZip (KeepsSorts r.own (r.now end.names)) atoms flats
    pub first : (end : Ground) → IsLater after end → AllZip (KeepsFirst r.own (r.now end.names)) atoms flats
    pub same : (end : Ground) (v : Values) (env : Environment) (functions : Functions) → IsLater after end → AreValues end v env functions → AllZip (KeepsTruth env functions) atoms flats

  atoms_to : (atoms flats now : List Atom) (before mid after : Ground) → flats ≡ now → mid ≡ after → AreNamedOver before mid atoms flats → AreNamedOver before after atoms now
  atoms_to atoms flats now before mid after e f h = subst (λ (fs : List Atom). AreNamedOver before after atoms fs) e (subst (λ (g : Ground). AreNamedOver before g atoms flats) f h)

  pub atoms_named : (f : Term → Maker Term) (atoms flats : List Atom) (before after : Ground) → ((term : Term) → IsMadeAlways r (f term) term) → All (HasOneSort r.own) atoms → All (IsLightWithin r.own) atoms
      → r.holds before → each (made_atom f) atoms before ≡ Ok (flats, after) → AreNamedOver before after atoms flats
  atoms_named f [] flats before after always sorted light over e =
      let g = gave [] flats before after e in
      atoms_to [] [] flats before before after g.value g.ground
      (record {
        grew = grew_same before;
        over = over;
        light = tt;
        sorted = λ end l. tt;
        first = λ end l. tt;
        same = λ end v env functions l values. tt;
      })
  atoms_named f (atom ∷ atoms) flats before after always sorted light over e =
      let s = came (made_atom f atom before) (λ y. λ mid. each (made_atom f) atoms mid then λ ys. λ end. Ok (y ∷ ys, end)) flats after e in
      let one = atom_named f atom s.value before s.mid always (All-head (HasOneSort r.own) atom atoms sorted) (All-head (IsLightWithin r.own) atom atoms light) over s.first in
      let t = came (each (made_atom f) atoms s.mid) (λ ys. λ end. Ok (s.value ∷ ys, end)) flats after s.rest in
      let rest = atoms_named f atoms t.value s.mid t.mid always (All-tail (HasOneSort r.own) atom atoms sorted) (All-tail (IsLightWithin r.own) atom atoms light) one.over t.first in
      let g = gave (s.value ∷ t.value) flats t.mid after t.rest in
      let later = λ (end : Ground) (l : IsLater t.mid end). later_through s.mid t.mid end rest.grew.begins l in
      atoms_to (atom ∷ atoms) (s.value ∷ t.value) flats before t.mid after g.value g.ground
      (record {
        grew = grew_through before s.mid t.mid one.grew rest.grew;
        over = rest.over;
        light = (one.light, rest.light);
        sorted = λ end l. (one.sorted end (later end l), rest.sorted end l);
        first = λ end l. (one.first end (later end l), rest.first end l);
        same = λ end v env functions l values. (one.same end v env functions (later end l) values, rest.same end v env functions l values);
      })

-- ---- over the names of a ground set
pub atoms_are_named : AtomsAreNamed
atoms_are_named item atoms flats before after sound light sorted e =
    let scope = term_scope before.names in
    let h = atoms_named (by_names scope) (named item) atoms flats before after (terms_are_named scope item) sorted light (record { sound = sound; wider = same_scope scope }) e in
    record { grew = h.grew; sound = h.over.sound; light = h.light; sorted = h.sorted; first = h.first; same = h.same }
