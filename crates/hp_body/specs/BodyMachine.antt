-- Reading a body, token by token.
use Rattle.std.specs.Prelude.{if◌then◌else◌, List, [], ◌∷◌, ◌++◌, Option, Some, None}
use Rattle.hp_tree.specs.declared.term.Term.{Term}
use Rattle.hp_tree.specs.declared.problem.Atom.{Atom}
use Rattle.hp_tree.specs.declared.problem.Cmp.{Cmp}
use Rattle.hp_text.specs.declared.token.Kind.{Kind}
use Rattle.hp_text.specs.declared.token.Kind.TheVariants as kinds
use Rattle.hp_body.specs.declared.state.Front.TheVariants.{Nothing}
use Rattle.hp_body.specs.declared.state.Mode.{Mode}
use Rattle.hp_body.specs.declared.state.Mode.TheVariants.{Part}
use Rattle.hp_body.specs.declared.state.Frame.{Frame}
use Rattle.hp_body.specs.declared.body.Place.{Place}
use Rattle.hp_body.specs.declared.body.Place.TheVariants.{First, Guard, Bare, Head}
use Rattle.hp_body.specs.declared.body.Side.{Side}
use Rattle.hp_body.specs.declared.body.Side.TheVariants.{Left, Right}
use Rattle.hp_body.specs.declared.body.Body.{Body}
use Rattle.hp_body.specs.declared.body.Body.TheVariants.{Reading, Closed}
use Rattle.hp_grammar.specs.declared.symbol.Symbol.{Symbol as Token}
use Rattle.hp_grammar.specs.declared.symbol.Symbol.TheVariants.{Word as word, Name as name, Numeral as numeral}
use Rattle.hp_grammar.specs.Token.{same}
use Rattle.hp_grammar.specs.Bodies.{relation, atom_of}
use Rattle.hp_grammar.specs.Runs.{◌and_then◌}
use Rattle.hp_body.specs.Machine.{State, step, ended, is_fresh}

-- a body begins, or its head behind a guard
abbrev pub begun : Place → Body
begun p = Reading p Left (Part Nothing) []

-- the term that ends here, no parenthesis being open
abbrev pub outermost : Mode → List Frame → Option Term
outermost m [] = ended m
outermost m (f ∷ fs) = None

-- the atom that ends here
abbrev pub atom_end : Side → Mode → List Frame → Option Atom
atom_end Left m fs = None
atom_end (Right a c) m fs = outermost m fs and_then λ b. Some (atom_of a c b)

abbrev pub at_and : Place → Atom → Option Place
at_and First a = Some (Guard (a ∷ []))
at_and (Guard bs) a = Some (Guard (bs ++ a ∷ []))
at_and p a = None

abbrev pub at_arrow : Place → Atom → Option Place
at_arrow First a = Some (Bare (a ∷ []))
at_arrow (Guard bs) a = Some (Bare (bs ++ a ∷ []))
at_arrow p a = None

abbrev pub at_or : Place → Atom → Option Place
at_or First a = Some (Head [] (a ∷ []))
at_or (Guard bs) a = None
at_or (Bare g) a = Some (Head g (a ∷ []))
at_or (Head g bs) a = Some (Head g (bs ++ a ∷ []))

-- the guard and the head of a body that ends with this atom
abbrev pub last : Place → Atom → Option (List Atom × List Atom)
last First a = Some ([], a ∷ [])
last (Guard bs) a = None
last (Bare g) a = Some (g, a ∷ [])
last (Head g bs) a = Some (g, bs ++ a ∷ [])

abbrev pub at_relation : Side → Mode → List Frame → Cmp → Option (Side × State)
at_relation Left m fs c = outermost m fs and_then λ a. Some (Right a c, (Part Nothing, []))
at_relation (Right a d) m fs c = None

-- `false` with this guard, where no token of an atom is read
abbrev pub fresh : Side → Mode → List Frame → List Atom → Option Body
fresh Left m [] g = if is_fresh m then Some (Closed g) else None
fresh d m fs g = None

abbrev pub at_false : Place → Side → Mode → List Frame → Option Body
at_false First d m fs = fresh d m fs []
at_false (Bare g) d m fs = fresh d m fs g
at_false p d m fs = None

abbrev pub in_term : Place → Side → Option State → Option Body
in_term p d o = o and_then λ s. Some (Reading p d s.0 s.1)

abbrev pub relation_or_term : Option Cmp → Kind → Place → Side → Mode → List Frame → Option Body
relation_or_term (Some c) k p d m fs = at_relation d m fs c and_then λ e. Some (Reading p e.0 e.1.0 e.1.1)
relation_or_term None k p d m fs = in_term p d (step (m, fs) (word k))

unfoldable pub and_goes : Place → Side → Mode → List Frame → Option Body
and_goes p d m fs = atom_end d m fs and_then λ a. at_and p a and_then λ q. Some (begun q)

unfoldable pub arrow_goes : Place → Side → Mode → List Frame → Option Body
arrow_goes p d m fs = atom_end d m fs and_then λ a. at_arrow p a and_then λ q. Some (begun q)

unfoldable pub or_goes : Place → Side → Mode → List Frame → Option Body
or_goes p d m fs = atom_end d m fs and_then λ a. at_or p a and_then λ q. Some (begun q)

unfoldable pub other_goes : Kind → Place → Side → Mode → List Frame → Option Body
other_goes k p d m fs = relation_or_term (relation k) k p d m fs

unfoldable pub false_goes : Place → Side → Mode → List Frame → Option Body
false_goes p d m fs = at_false p d m fs

-- behind `|` and `false`, and inside an atom
unfoldable pub head_goes : Kind → Place → Side → Mode → List Frame → Option Body
head_goes k p d m fs =
    if same k kinds.Or then or_goes p d m fs
    else if same k kinds.False then false_goes p d m fs
    else other_goes k p d m fs

-- the body behind one more word or sign, if it may stand there
unfoldable pub body_word : Kind → Place → Side → Mode → List Frame → Option Body
body_word k p d m fs =
    if same k kinds.And then and_goes p d m fs
    else if same k kinds.Arrow then arrow_goes p d m fs
    else head_goes k p d m fs

abbrev pub body_step : Body → Token → Option Body
body_step (Closed g) k = None
body_step (Reading p d m fs) (word k) = body_word k p d m fs
body_step (Reading p d m fs) (name x) = in_term p d (step (m, fs) (name x))
body_step (Reading p d m fs) (numeral n) = in_term p d (step (m, fs) (numeral n))

-- the guard and the head, where a body may end here
abbrev pub body_end : Body → Option (List Atom × List Atom)
body_end (Closed g) = Some (g, [])
body_end (Reading p d m fs) = atom_end d m fs and_then last p
