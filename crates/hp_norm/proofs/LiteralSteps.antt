-- The literals of atoms, one atom after the other.
use Rattle.std.proofs.Common.{◌≡◌, ◌<◌, ℕ, ◌+◌, true, false, List, [], ◌++◌, Bool, length, get_or, drop, Ok, Err, refl, sym, ap, ◌∙◌, append_assoc}
use Rattle.std.proofs.lemmas.List.{drop_more}
use Rattle.hp_num.specs.Wide.{◌>>=◌}
use Rattle.hp_tree.specs.declared.problem.Atom.{Atom}
use Rattle.hp_lit.specs.declared.literal.Lit.{Lit}
use Rattle.hp_lit.specs.declared.refusal.Refusal.{Refusal}
use Rattle.hp_lit.specs.declared.refusal.Refusal.TheVariants.{Wide, Memory}
use Rattle.hp_linear.specs.Answers.{Answers, Pushed}
use Rattle.hp_linear.specs.Steps.{Refusable, behind}
use Rattle.hp_linear.proofs.Refusals.{behind_behind}
use Rattle.hp_defs.specs.Names.{NameList}
use Rattle.hp_norm.specs.Answers.{Added}
use Rattle.hp_norm.specs.Lines.{atom_literals, atoms_literals, flat_literals}

-- the literals of the first atoms
pub record AtomsSoFar (names : NameList) (positive : Bool) (atoms : List Atom) (i : ℕ) (old lits : List Lit) : Type 0 where
  pub more : List Lit
  pub added : lits ≡ old ++ more
  pub rest : atoms_literals names positive atoms ≡ behind more (atoms_literals names positive (drop i atoms))

module _ (names : NameList) (positive : Bool) (atoms : List Atom) (old : List Lit) where
  -- the literals of the next atom behind those so far, and then those of the rest
  next_atom : (i : ℕ) (d : Atom) (more : List Lit) (r : Refusable (List Lit)) → i < length atoms → atoms_literals names positive atoms ≡ behind more (atoms_literals names positive (drop i atoms))
      → atom_literals names positive (get_or atoms i d) ≡ r → atoms_literals names positive atoms ≡ behind more (r >>= λ lits. behind lits (atoms_literals names positive (drop (i + 1) atoms)))
  next_atom i d more r h rest e =
      rest ∙ ap (λ (xs : List Atom). behind more (atoms_literals names positive xs)) (drop_more atoms i d h)
      ∙ ap (λ (x : Refusable (List Lit)). behind more (x >>= λ lits. behind lits (atoms_literals names positive (drop (i + 1) atoms)))) e

  pub atom_more : (i : ℕ) (d : Atom) (lits new : List Lit) (done : Unit {0}) → i < length atoms → Pushed (atom_literals names positive (get_or atoms i d)) lits new (Ok done)
      → AtomsSoFar names positive atoms i old lits → AtomsSoFar names positive atoms (i + 1) old new
  atom_more i d lits new done h is so_far = record {
    more = so_far.more ++ is.0;
    added = is.2 ∙ ap (λ (xs : List Lit). xs ++ is.0) so_far.added ∙ append_assoc old so_far.more is.0;
    rest = next_atom i d so_far.more (Ok is.0) h so_far.rest is.1 ∙ behind_behind so_far.more is.0 (atoms_literals names positive (drop (i + 1) atoms));
  }

  pub atom_refused : (i : ℕ) (d : Atom) (lits new : List Lit) (refusal : Refusal) → i < length atoms → Pushed (atom_literals names positive (get_or atoms i d)) lits new (Err refusal)
      → AtomsSoFar names positive atoms i old lits → Added (atoms_literals names positive atoms) old new (Err refusal)
  atom_refused i d lits new Wide h is so_far = next_atom i d so_far.more (Err Wide) h so_far.rest is.0
  atom_refused i d lits new Memory h is so_far = tt

-- ---- a guard and a head
module _ (names : NameList) (guard head : List Atom) where
  abbrev first : Refusable (List Lit)
  first = atoms_literals names false guard

  abbrev last : Refusable (List Lit)
  last = atoms_literals names true head

  both : (g h : Refusable (List Lit)) → first ≡ g → last ≡ h → flat_literals names guard head ≡ (g >>= λ lits. behind lits h)
  both g h p q = (λ i. p i >>= λ lits. behind lits (q i))

  pub lits_found : (mid end : List Lit) (done over : Unit {0}) → Added first [] mid (Ok done) → Added last mid end (Ok over) → Answers (flat_literals names guard head) (Ok end)
  lits_found mid end done over g h =
      let lits : end ≡ g.0 ++ h.0 = h.2 ∙ ap (λ (xs : List Lit). xs ++ h.0) g.2 in
      both (Ok g.0) (Ok h.0) g.1 h.1 ∙ ap (λ (ls : List Lit). Ok ls) (sym lits)

  pub guard_refused : (mid : List Lit) (refusal : Refusal) → Added first [] mid (Err refusal) → Answers (flat_literals names guard head) (Err refusal)
  guard_refused mid Wide g = both (Err Wide) last g refl
  guard_refused mid Memory g = tt

  pub head_refused : (mid end : List Lit) (done : Unit {0}) (refusal : Refusal) → Added first [] mid (Ok done) → Added last mid end (Err refusal) → Answers (flat_literals names guard head) (Err refusal)
  head_refused mid end done Wide g h = both (Ok g.0) (Err Wide) g.1 h
  head_refused mid end done Memory g h = tt
