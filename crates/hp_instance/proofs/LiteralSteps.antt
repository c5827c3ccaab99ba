-- The literals of atoms of known sorts, one atom after the other.
use Rattle.std.proofs.Common.{◌≡◌, ◌<◌, ◌≤◌, ℕ, zero, suc, ◌+◌, Bool, true, false, arith, List, [], ◌∷◌, ◌++◌, length, get_or, drop, Ok, Err, refl, sym, ap, ◌∙◌, ◌⊎◌, inl, inr, subst, append_assoc, append-nil}
use Rattle.std.specs.List.{AllZip}
use Rattle.std.proofs.lemmas.List.{drop_more}
use Rattle.hp_num.specs.Wide.{◌>>=◌}
use Rattle.hp_tree.specs.declared.problem.Sort.{Sort}
use Rattle.hp_tree.specs.declared.problem.Atom.{Atom}
use Rattle.hp_lit.specs.declared.literal.Lit.{Lit}
use Rattle.hp_lit.specs.declared.refusal.Refusal.{Refusal}
use Rattle.hp_lit.specs.declared.refusal.Refusal.TheVariants.{Wide, Memory}
use Rattle.hp_linear.specs.Answers.{Answers, Pushed}
use Rattle.hp_linear.specs.Steps.{Refusable, behind}
use Rattle.hp_linear.proofs.Refusals.{behind_behind, behind_nothing}
use Rattle.hp_defs.specs.Names.{NameList, words}
use Rattle.hp_base.specs.Lines.{literals_as}
use Rattle.hp_norm.specs.Answers.{Added}
use Rattle.hp_instance.specs.Instances.{IsLightFor, literals_of, sorted_literals}

-- the literals of the first atoms
pub record LitsSoFar (names : NameList) (positive : Bool) (sorts : List Sort) (atoms : List Atom) (i : ℕ) (old lits : List Lit) : Type 0 where
  pub more : List Lit
  pub added : lits ≡ old ++ more
  pub rest : literals_of names positive sorts atoms ≡ behind more (literals_of names positive (drop i sorts) (drop i atoms))

module _ (names : NameList) (positive : Bool) (sorts : List Sort) (atoms : List Atom) (old : List Lit) where
  abbrev from : ℕ → Refusable (List Lit)
  from i = literals_of names positive (drop i sorts) (drop i atoms)

  pub no_lits : LitsSoFar names positive sorts atoms 0 old old
  no_lits = record { more = []; added = sym (append-nil old); rest = sym (behind_nothing (literals_of names positive sorts atoms)) }

  next_lits : (i : ℕ) (s : Sort) (d : Atom) (more : List Lit) (r : Refusable (List Lit)) → i < length sorts → i < length atoms
      → literals_of names positive sorts atoms ≡ behind more (from i)
      → literals_as (get_or sorts i s) (words names) positive (get_or atoms i d) ≡ r
      → literals_of names positive sorts atoms ≡ behind more (r >>= λ lits. behind lits (from (i + 1)))
  next_lits i s d more r k h rest e =
      rest ∙ (λ j. behind more (literals_of names positive (drop_more sorts i s k j) (drop_more atoms i d h j)))
      ∙ ap (λ (x : Refusable (List Lit)). behind more (x >>= λ lits. behind lits (from (i + 1)))) e

  pub lits_more : (i : ℕ) (s : Sort) (d : Atom) (lits new : List Lit) (done : Unit {0}) → i < length sorts → i < length atoms
      → Pushed (literals_as (get_or sorts i s) (words names) positive (get_or atoms i d)) lits new (Ok done)
      → LitsSoFar names positive sorts atoms i old lits → LitsSoFar names positive sorts atoms (i + 1) old new
  lits_more i s d lits new done k h is so_far = record {
    more = so_far.more ++ is.0;
    added = is.2 ∙ ap (λ (xs : List Lit). xs ++ is.0) so_far.added ∙ append_assoc old so_far.more is.0;
    rest = next_lits i s d so_far.more (Ok is.0) k h so_far.rest is.1 ∙ behind_behind so_far.more is.0 (from (i + 1));
  }

  pub lits_refused : (i : ℕ) (s : Sort) (d : Atom) (lits new : List Lit) (refusal : Refusal) → i < length sorts → i < length atoms
      → Pushed (literals_as (get_or sorts i s) (words names) positive (get_or atoms i d)) lits new (Err refusal)
      → LitsSoFar names positive sorts atoms i old lits → Added (literals_of names positive sorts atoms) old new (Err refusal)
  lits_refused i s d lits new Wide k h is so_far = next_lits i s d so_far.more (Err Wide) k h so_far.rest is.0
  lits_refused i s d lits new Memory k h is so_far = tt

-- where one of the lists is over, there are no more
no_more : (names : NameList) (positive : Bool) (sorts : List Sort) (atoms : List Atom) (i : ℕ) → (length sorts ≤ i) ⊎ (length atoms ≤ i) → literals_of names positive (drop i sorts) (drop i atoms) ≡ Ok []
no_more names positive [] [] zero h = refl
no_more names positive [] (atom ∷ atoms) zero h = refl
no_more names positive (s ∷ sorts) [] zero h = refl
no_more names positive (s ∷ sorts) (atom ∷ atoms) zero (inl h) = absurd (omega arith)
no_more names positive (s ∷ sorts) (atom ∷ atoms) zero (inr h) = absurd (omega arith)
no_more names positive [] [] (suc i) h = refl
no_more names positive [] (atom ∷ atoms) (suc i) h = nothing (drop i atoms)
  where
    nothing : (rest : List Atom) → literals_of names positive [] rest ≡ Ok []
    nothing [] = refl
    nothing (x ∷ rest) = refl
no_more names positive (s ∷ sorts) [] (suc i) h = nothing (drop i sorts)
  where
    nothing : (rest : List Sort) → literals_of names positive rest [] ≡ Ok []
    nothing [] = refl
    nothing (x ∷ rest) = refl
no_more names positive (s ∷ sorts) (atom ∷ atoms) (suc i) (inl h) = no_more names positive sorts atoms i (inl (omega arith))
no_more names positive (s ∷ sorts) (atom ∷ atoms) (suc i) (inr h) = no_more names positive sorts atoms i (inr (omega arith))

pub all_lits : (names : NameList) (positive : Bool) (sorts : List Sort) (atoms : List Atom) (old : List Lit) (i : ℕ) (lits : List Lit) → (length sorts ≤ i) ⊎ (length atoms ≤ i)
    → LitsSoFar names positive sorts atoms i old lits → (done : Unit {0}) → Added (literals_of names positive sorts atoms) old lits (Ok done)
all_lits names positive sorts atoms old i lits h so_far done = (
  so_far.more,
  so_far.rest ∙ ap (behind so_far.more) (no_more names positive sorts atoms i h) ∙ ap (λ (xs : List Lit). Ok xs) (append-nil so_far.more),
  so_far.added,
)

-- the atom at a place is as light as its sort asks
pub light_at : (sorts : List Sort) (atoms : List Atom) (i : ℕ) (d : Sort) (atom : Atom) → i < length sorts → i < length atoms → atom ≡ get_or atoms i atom → AllZip IsLightFor sorts atoms
    → IsLightFor (get_or sorts i d) atom
light_at [] atoms i d atom h k e light = absurd (omega arith)
light_at (s ∷ sorts) [] i d atom h k e light = absurd (omega arith)
light_at (s ∷ sorts) (a ∷ atoms) zero d atom h k e light = subst (IsLightFor s) (sym e) light.0
light_at (s ∷ sorts) (a ∷ atoms) (suc i) d atom h k e light = light_at sorts atoms i d atom (omega arith) (omega arith) e light.1

-- ---- a guard and a head
module _ (names : NameList) (guard_sorts : List Sort) (guard : List Atom) (head_sorts : List Sort) (head : List Atom) where
  abbrev first : Refusable (List Lit)
  first = literals_of names false guard_sorts guard

  abbrev last : Refusable (List Lit)
  last = literals_of names true head_sorts head

  both : (g h : Refusable (List Lit)) → first ≡ g → last ≡ h → sorted_literals names guard_sorts guard head_sorts head ≡ (g >>= λ lits. behind lits h)
  both g h p q = (λ i. p i >>= λ lits. behind lits (q i))

  pub lits_found : (mid end : List Lit) (done over : Unit {0}) → Added first [] mid (Ok done) → Added last mid end (Ok over) → Answers (sorted_literals names guard_sorts guard head_sorts head) (Ok end)
  lits_found mid end done over g h =
      let lits : end ≡ g.0 ++ h.0 = h.2 ∙ ap (λ (xs : List Lit). xs ++ h.0) g.2 in
      both (Ok g.0) (Ok h.0) g.1 h.1 ∙ ap (λ (ls : List Lit). Ok ls) (sym lits)

  pub guard_refused : (mid : List Lit) (refusal : Refusal) → Added first [] mid (Err refusal) → Answers (sorted_literals names guard_sorts guard head_sorts head) (Err refusal)
  guard_refused mid Wide g = both (Err Wide) last g refl
  guard_refused mid Memory g = tt

  pub head_refused : (mid end : List Lit) (done : Unit {0}) (refusal : Refusal) → Added first [] mid (Ok done) → Added last mid end (Err refusal)
      → Answers (sorted_literals names guard_sorts guard head_sorts head) (Err refusal)
  head_refused mid end done Wide g h = both (Ok g.0) (Err Wide) g.1 h
  head_refused mid end done Memory g h = tt
