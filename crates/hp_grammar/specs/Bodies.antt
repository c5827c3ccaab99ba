-- The grammar of atoms and bodies.
use Rattle.std.specs.Prelude.{if◌then◌else◌, List, [], ◌∷◌, ◌++◌, ◌≡◌, Option, Some, None}
use Rattle.hp_tree.specs.declared.term.Term.{Term}
use Rattle.hp_tree.specs.declared.problem.Atom.{Atom}
use Rattle.hp_tree.specs.declared.problem.Cmp.{Cmp}
use Rattle.hp_tree.specs.declared.problem.Cmp.TheVariants as relations
use Rattle.hp_text.specs.declared.token.Kind.{Kind}
use Rattle.hp_text.specs.declared.token.Kind.TheVariants as kinds
use Rattle.hp_grammar.specs.Token.{Token, word, same}
use Rattle.hp_grammar.specs.Grammar.{SpellsTerm}

-- item { sign item }, from the left
pub data Separated {A : Type 0} (Spells : List Token → A → Type 0) (sign : Kind) : List Token → List A → Type 0 where
  one : (u : List Token) (a : A) → Spells u a → Separated Spells sign u (a ∷ [])
  more : (u v : List Token) (bs : List A) (a : A) → Separated Spells sign u bs → Spells v a → Separated Spells sign (u ++ word sign ∷ v) (bs ++ a ∷ [])

unfoldable pub relation : Kind → Option Cmp
relation k =
    if same k kinds.LessEq then Some relations.Le
    else if same k kinds.Less then Some relations.Lt
    else if same k kinds.Equal then Some relations.Eq
    else if same k kinds.NotEqual then Some relations.Ne
    else if same k kinds.GreaterEq then Some relations.Ge
    else if same k kinds.Greater then Some relations.Gt
    else None

abbrev pub atom_of : Term → Cmp → Term → Atom
atom_of a c b = record { left = a; cmp = c; right = b }

-- atom = term rel term
pub record SpellsAtom (u : List Token) (a : Atom) : Type 0 where
  pub left_tokens : List Token
  pub right_tokens : List Token
  pub left_term : Term
  pub right_term : Term
  pub sign : Kind
  pub cmp_of : Cmp
  pub left_is : SpellsTerm left_tokens left_term
  pub rel_is : relation sign ≡ Some cmp_of
  pub right_is : SpellsTerm right_tokens right_term
  pub tokens : u ≡ left_tokens ++ word sign ∷ right_tokens
  pub atom : a ≡ atom_of left_term cmp_of right_term

abbrev pub SpellsAtoms : Kind → List Token → List Atom → Type 0
SpellsAtoms = Separated SpellsAtom

-- [ atom { "&" atom } "->" ]
pub data SpellsGuard : List Token → List Atom → Type 0 where
  none : SpellsGuard [] []
  some : (u : List Token) (bs : List Atom) → SpellsAtoms kinds.And u bs → SpellsGuard (u ++ word kinds.Arrow ∷ []) bs

-- head = "false" | atom { "|" atom }
pub data SpellsHead : List Token → List Atom → Type 0 where
  empty : SpellsHead (word kinds.False ∷ []) []
  atoms : (u : List Token) (bs : List Atom) → SpellsAtoms kinds.Or u bs → SpellsHead u bs

-- body = guard head
pub data SpellsBody : List Token → List Atom → List Atom → Type 0 where
  body : (u v : List Token) (guard head : List Atom) → SpellsGuard u guard → SpellsHead v head → SpellsBody (u ++ v) guard head
