-- The replacement of names by terms.
use Rattle.std.specs.Prelude.{◌≡◌, List, map, Bool, true}
use Rattle.hp_tree.specs.declared.term.Term.{Term, fold-Term, roll-Term}
use Rattle.hp_tree.specs.declared.term.Term.TheOpen.{Term-F}
use Rattle.hp_tree.specs.declared.problem.Atom.{Atom}
use Rattle.hp_tree.specs.Value.{Word, Environment, Functions, value, all_true}
use Rattle.hp_local.specs.Applied.{applies_only}

-- each name is replaced by a term
abbrev pub substitute_step : (Word → Term) → Term-F Term → Term
substitute_step replacement (Term-F.Number n) = roll-Term (Term-F.Number n)
substitute_step replacement Term-F.Null = roll-Term Term-F.Null
substitute_step replacement (Term-F.Name name) = replacement name
substitute_step replacement (Term-F.Apply func args) = roll-Term (Term-F.Apply func args)
substitute_step replacement (Term-F.Add a b) = roll-Term (Term-F.Add a b)
substitute_step replacement (Term-F.Sub a b) = roll-Term (Term-F.Sub a b)
substitute_step replacement (Term-F.Neg a) = roll-Term (Term-F.Neg a)
substitute_step replacement (Term-F.Scale n a) = roll-Term (Term-F.Scale n a)

abbrev pub substitute : (Word → Term) → Term → Term
substitute replacement = fold-Term Term (substitute_step replacement)

abbrev pub substitute_atom : (Word → Term) → Atom → Atom
substitute_atom replacement atom = record { left = substitute replacement atom.left; cmp = atom.cmp; right = substitute replacement atom.right }

-- the term then has the value that it has at the values of the replacements
abbrev pub SubstitutesHaveValues : Type 0
SubstitutesHaveValues = (names : Environment) (functions : Functions) (replacement : Word → Term) (term : Term)
    → value names functions (substitute replacement term) ≡ value (λ word. value names functions (replacement word)) functions term

-- where the replacements have the values of the names, terms and guards keep their values
abbrev pub HaveNamesValues : Environment → Functions → (Word → Term) → Environment → Type 0
HaveNamesValues env functions replacement names = (word : Word) → value env functions (replacement word) ≡ names word

abbrev pub SubstitutesKeepValues : Type 0
SubstitutesKeepValues = (env names : Environment) (functions : Functions) (replacement : Word → Term) → HaveNamesValues env functions replacement names
    → (term : Term) → value env functions (substitute replacement term) ≡ value names functions term

abbrev pub SubstitutesKeepGuards : Type 0
SubstitutesKeepGuards = (env names : Environment) (functions : Functions) (replacement : Word → Term) → HaveNamesValues env functions replacement names
    → (atoms : List Atom) → all_true env functions (map (substitute_atom replacement) atoms) ≡ all_true names functions atoms

-- replacements without applications add none
abbrev pub SubstitutesApplyTheSame : Type 0
SubstitutesApplyTheSame = (test : Word → Bool) (replacement : Word → Term) → ((word : Word) → applies_only test (replacement word) ≡ true)
    → (term : Term) → applies_only test (substitute replacement term) ≡ applies_only test term
