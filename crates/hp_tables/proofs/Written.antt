-- The clause of a monotone function, as its form says it.
use Rattle.std.proofs.Common.{◌≡◌, ℕ, List, [], ◌∷◌, false, map, sym, ap, subst, ◌∙◌}
use Rattle.std.specs.Prelude.{option_and_then}
use Rattle.std.specs.Str.{bytes_eq}
use Rattle.std.proofs.lemmas.Bool.{or_parts}
use Rattle.hp_tree.specs.declared.problem.Var.{Var}
use Rattle.hp_tree.specs.Universal.{Universal}
use Rattle.hp_tree.specs.Value.{Word}
use Rattle.hp_names.specs.Names.{AreDistinct}
use Rattle.hp_defs.specs.Names.{NameList}
use Rattle.hp_local.specs.Monotone.{Shape, shape_clause}
use Rattle.hp_norm.specs.declared.flat.FlatClause.{FlatClause}
use Rattle.hp_norm.specs.Flat.{universal_of}
use Rattle.hp_shapes.specs.declared.shape.Form.{Form}
use Rattle.hp_tables.specs.Classes.{IsMonotone}
use Rattle.hp_shapes.specs.Shapes.{shape_at}
use Rattle.hp_shapes.proofs.Shapes.{form_shape, shapes_are_written}

-- two variables of a flat clause have different words
words_differ : (first second : Word) → AreDistinct (first ∷ second ∷ []) → bytes_eq first second ≡ false
words_differ first second h = (or_parts (bytes_eq first second) false h.0).0

pub record IsWritten (word : Word) (c : FlatClause) : Type 0 where
  pub shape : Shape
  pub different : bytes_eq shape.first shape.second ≡ false
  pub clause_is : universal_of c ≡ shape_clause word shape

pub written : (names : NameList) (func : ℕ) (word : Word) (c : FlatClause) (form : Form) (funcs : List ℕ) (lent : IsMonotone names func word c form funcs) → IsWritten lent.signature.name c
written names func word c form funcs lent =
    let found = form_shape word c.vars c.guard c.head form lent.shape in
    let shape = found.shape in
    let all : universal_of c ≡ shape_clause word shape = shapes_are_written (universal_of c) word shape (ap (λ o. option_and_then (shape_at c.vars) o) lent.shape ∙ found.is) in
    let clause_is : universal_of c ≡ shape_clause lent.signature.name shape = all ∙ ap (λ (w : Word). shape_clause w shape) (sym lent.name) in
    record {
      shape = shape;
      different = words_differ shape.first shape.second (subst (λ (u : Universal). AreDistinct (map (λ (x : Var). x.name) u.vars)) clause_is lent.flat.distinct);
      clause_is = clause_is;
    }
