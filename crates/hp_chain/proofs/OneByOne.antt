-- The constants of a structure, one by one.
use Rattle.std.proofs.Common.{◌≡◌, ℕ, suc, ◌+◌, ◌<◌, ◌≤◌, List, [], ◌∷◌, ◌++◌, map, length, drop, get_or, sym, ap, ◌∙◌, append-nil, append_assoc, add-one}
use Rattle.std.proofs.lemmas.List.{drop_all}
use Rattle.hp_math.specs.Rational.{ℚ}
use Rattle.hp_lit.specs.Truth.{Values}
use Rattle.hp_defs.specs.declared.names.Constant.{Constant}
use Rattle.hp_defs.specs.Names.{constant_name}
use Rattle.hp_model.specs.declared.structure.ConstValue.{ConstValue}
use Rattle.hp_base.proofs.Each.{item_next}
use Rattle.hp_class.specs.Frame.{const_values}

-- those before a place are there
pub record AreConstsTo (cs : List Constant) (v : Values) (i : ℕ) (made : List ConstValue) : Type 0 where
  pub rest : const_values (map constant_name cs) v ≡ made ++ const_values (map constant_name (drop i cs)) (drop i v)

pub consts_start : (cs : List Constant) (v : Values) (made : List ConstValue) → made ≡ [] → AreConstsTo cs v 0 made
consts_start cs v made e = record { rest = ap (λ xs. xs ++ const_values (map constant_name cs) v) (sym e) }

pub consts_more : (cs : List Constant) (v : Values) (i : ℕ) (made more : List ConstValue) (c : Constant) (x : ℚ) → i < length cs → i < length v
    → c ≡ get_or cs i c → x ≡ get_or v i x → more ≡ made ++ record { name = c.name; value = x } ∷ [] → AreConstsTo cs v i made → AreConstsTo cs v (i + 1) more
consts_more cs v i made more c x h l e g is a =
    let first : ConstValue = record { name = c.name; value = x } in
    let rest = const_values (map constant_name (drop (suc i) cs)) (drop (suc i) v) in
    record {
      rest = a.rest ∙ (λ j. made ++ const_values (map constant_name (item_next cs i c h e j)) (item_next v i x l g j))
          ∙ sym (append_assoc made (first ∷ []) rest) ∙ ap (λ xs. xs ++ rest) (sym is)
          ∙ ap (λ k. more ++ const_values (map constant_name (drop k cs)) (drop k v)) (sym (add-one i));
    }

pub consts_end : (cs : List Constant) (v : Values) (i : ℕ) (made : List ConstValue) → length cs ≤ i → AreConstsTo cs v i made → made ≡ const_values (map constant_name cs) v
consts_end cs v i made h a = sym (a.rest ∙ ap (λ xs. made ++ const_values (map constant_name xs) (drop i v)) (drop_all i cs h) ∙ append-nil made)
