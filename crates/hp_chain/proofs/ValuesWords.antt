-- The words of all names as an environment: each has the value of its name, and the declared constants have theirs in the structure.
use Rattle.std.proofs.Common.{◌≡◌, ◌∙◌, ◌++◌, inl, inr, cond, List, [], ◌∷◌, length, map, refl, sym, ap, subst, true}
use Rattle.std.specs.Str.{bytes_eq}
use Rattle.std.specs.List.{Contains}
use Rattle.hp_names.proofs.Texts.{text_same}
use Rattle.hp_tree.specs.declared.problem.Problem.{Problem}
use Rattle.hp_tree.specs.Value.{Word}
use Rattle.hp_lit.specs.Truth.{Values}
use Rattle.hp_local.proofs.Lists.{All-by, contains_cases, contains_map, contains_none}
use Rattle.hp_defs.specs.declared.names.Constant.{Constant}
use Rattle.hp_defs.specs.Names.{NameList, constant_name, constant_words, words}
use Rattle.hp_norm.specs.Laws.{AgreeOnConstants}
use Rattle.hp_norm.specs.Lines.{constants_of}
use Rattle.hp_terms.specs.Words.{numbered}
use Rattle.hp_class.specs.Frame.{environment}

-- words in front have the values that they have alone
pub front_same : (ws more : List Word) (w : Values) (word : Word) → Contains ws word → environment (ws ++ more) w word ≡ environment ws w word
front_same [] more w word m = absurd (contains_none word m)
front_same (a ∷ ws) more [] word m = refl
front_same (a ∷ ws) more (x ∷ xs) word m = elim (contains_cases a ws word m) [
  | inl e ↦ (
      let yes : bytes_eq a word ≡ true = subst (λ (b : Word). bytes_eq a b ≡ true) e (text_same a) in
      ap (λ b. cond b x (environment (ws ++ more) xs word)) yes ∙ sym (ap (λ b. cond b x (environment ws xs word)) yes))
  | inr l ↦ ap (λ r. cond (bytes_eq a word) x r) (front_same ws more xs word l)
]

-- a constant has the same value among all names as among the constants alone
abbrev HasSameValue : NameList → Values → Constant → Type 0
HasSameValue names w c = environment (words names) w c.name ≡ environment (constant_words names) w c.name

pub constants_agree : (p : Problem) (names : NameList) (w : Values) → names.constants ≡ constants_of p.decls → AgreeOnConstants p (environment (words names) w) (environment (constant_words names) w)
constants_agree p names w e = All-by (HasSameValue names w) (constants_of p.decls) (λ c m. (
    let among = subst (λ (cs : List Constant). Contains (map constant_name cs) c.name) (sym e) (contains_map constant_name (constants_of p.decls) c m) in
    front_same (constant_words names) (numbered 1 (length names.definitions)) w c.name among))
