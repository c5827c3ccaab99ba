-- What fits names fits them while definitions are added at the end.
use Rattle.std.proofs.Common.{◌≡◌, ℕ, ◌++◌, List, [], ◌∷◌, take, Some, None, slice_get, sym, ap, subst, ◌∙◌, inl, inr}
use Rattle.std.specs.List.{AllZip}
use Rattle.std.proofs.lemmas.List.Elements.{All-weaker}
use Rattle.hp_tree.specs.declared.problem.Sort.{Sort}
use Rattle.hp_tree.specs.declared.problem.Sort.TheVariants.{Num, Idx, Ptr}
use Rattle.hp_lit.specs.Growing.{Begins}
use Rattle.hp_lit.specs.declared.line.Arg.{Arg}
use Rattle.hp_lit.specs.declared.line.Arg.TheVariants.{Number, Named, Index, Null}
use Rattle.hp_lit.specs.declared.line.Body.{Body}
use Rattle.hp_lit.specs.declared.line.Body.TheVariants.{Apply, Sum}
use Rattle.hp_lit.specs.declared.line.Def.{Def}
use Rattle.hp_defs.specs.declared.names.Signature.{Signature}
use Rattle.hp_defs.specs.Fit.{ArgFits, BodyFits, DefinitionFits, IsFitNames}
use Rattle.hp_defs.specs.Names.{BeginsNames, NameList, first_names, next, sorts, with_definition}
use Rattle.hp_defs.proofs.Growing.{begins_get, begins_with_definition, first_names_stay, sorts_begin}
use Rattle.hp_defs.proofs.Lists.{pushed, take_front}

arg_stays_fit : (old new : List Sort) → Begins old new → (sort : Sort) (arg : Arg) → ArgFits old sort arg → ArgFits new sort arg
arg_stays_fit old new b Num (Number x) h = h
arg_stays_fit old new b Num (Named n) h = begins_get old new n.0 Num b h
arg_stays_fit old new b Idx (Index None offset) h = h
arg_stays_fit old new b Idx (Index (Some n) offset) h = begins_get old new n.0 Idx b h
arg_stays_fit old new b Ptr (Named n) h = begins_get old new n.0 Ptr b h
arg_stays_fit old new b Ptr Null h = h
arg_stays_fit old new b Num (Index base offset) h = absurd h
arg_stays_fit old new b Num Null h = absurd h
arg_stays_fit old new b Idx (Number x) h = absurd h
arg_stays_fit old new b Idx (Named n) h = absurd h
arg_stays_fit old new b Idx Null h = absurd h
arg_stays_fit old new b Ptr (Number x) h = absurd h
arg_stays_fit old new b Ptr (Index base offset) h = absurd h

args_stay_fit : (old new : List Sort) → Begins old new → (sorts : List Sort) (args : List Arg) → AllZip (ArgFits old) sorts args → AllZip (ArgFits new) sorts args
args_stay_fit old new b [] [] h = h
args_stay_fit old new b [] (a ∷ rest) h = absurd h
args_stay_fit old new b (s ∷ ss) [] h = absurd h
args_stay_fit old new b (s ∷ ss) (a ∷ rest) h = (arg_stays_fit old new b s a h.0, args_stay_fit old new b ss rest h.1)

pub bodies_stay_fit : (body : Body) (old new : NameList) → BeginsNames old new → BodyFits old body → BodyFits new body
bodies_stay_fit (Apply func args) old new g h = record {
  known = h.known;
  found = ap (λ (ss : List Signature). slice_get ss func) g.signatures ∙ h.found;
  args_fit = args_stay_fit (sorts old) (sorts new) (sorts_begin old new g) h.known.args args h.args_fit;
}
bodies_stay_fit (Sum lin) old new g h = record {
  rising = h.rising;
  names = All-weaker (λ p. slice_get (sorts old) p.name.0 ≡ Some Num) (λ p. slice_get (sorts new) p.name.0 ≡ Some Num)
      (λ p e. begins_get (sorts old) (sorts new) p.name.0 Num (sorts_begin old new g) e) lin.parts h.names;
}

pub definitions_stay_fit : (old new : NameList) (k : ℕ) (d : Def) → BeginsNames old new → IsFitNames old → slice_get old.definitions k ≡ Some d → DefinitionFits new k d
definitions_stay_fit old new k d g fit e = subst (λ (names : NameList). BodyFits names d.body) (sym (first_names_stay old new k d g e)) (fit k d e)

pub fit_names_grow : (names : NameList) (body : Body) → IsFitNames names → BodyFits names body → IsFitNames (with_definition names body)
fit_names_grow names body fit h k d e =
    let last : Def = record { name = next names; body = body } in
    elim (pushed names.definitions last k d e) [
      | inl s ↦ definitions_stay_fit names (with_definition names body) k d (begins_with_definition names body) fit s
      | inr w ↦
          let front : take k (names.definitions ++ last ∷ []) ≡ names.definitions = ap (λ (j : ℕ). take j (names.definitions ++ last ∷ [])) w.0 ∙ take_front names.definitions (last ∷ []) in
          let there : first_names k (with_definition names body) ≡ names = λ i. record names { definitions = front i } in
          let same : d.body ≡ body = ap (λ (x : Def). x.body) w.1 in
          subst (λ (b : Body). BodyFits (first_names k (with_definition names body)) b) (sym same) (subst (λ (n : NameList). BodyFits n body) (sym there) h)
    ]
