-- The texts of literals.
use Rattle.std.specs.Prelude.{ℕ, Bool, true, false, List, ◌++◌, codes, Option, Some, None}
use Rattle.std.specs.Fmt.{signed_decimal}
use Rattle.hp_lit.specs.declared.literal.Name.{Name}
use Rattle.hp_lit.specs.declared.literal.Rel.{Rel}
use Rattle.hp_lit.specs.declared.literal.Rel.TheVariants.{Le, Lt, Eq}
use Rattle.hp_lit.specs.declared.literal.Lit.{Lit}
use Rattle.hp_lit.specs.declared.literal.Lit.TheVariants.{Num, Idx, Ptr}
use Rattle.hp_defs.specs.Names.{NameList}
use Rattle.hp_cert.specs.Forms.{name_text, parts_text}

abbrev pub relation_text : Rel → List ℕ
relation_text Le = codes " <= "
relation_text Lt = codes " < "
relation_text Eq = codes " = "

-- the difference of two names, no name being 0
abbrev pub difference_text : NameList → Option Name → Option Name → List ℕ
difference_text names (Some left) (Some right) = name_text names left ++ codes " - " ++ name_text names right
difference_text names (Some left) None = name_text names left
difference_text names None (Some right) = codes "-" ++ name_text names right
difference_text names None None = codes "0"

-- an equality, or a bound from above
abbrev pub bound_sign : Bool → List ℕ
bound_sign true = codes " = "
bound_sign false = codes " <= "

-- a pointer, no name being null
abbrev pub pointer_text : NameList → Option Name → List ℕ
pointer_text names (Some name) = name_text names name
pointer_text names None = codes "null"

abbrev pub same_sign : Bool → List ℕ
same_sign true = codes " = "
same_sign false = codes " != "

abbrev pub lit_text : NameList → Lit → List ℕ
lit_text names (Num lit) = parts_text names lit.parts ++ relation_text lit.rel ++ signed_decimal lit.bound
lit_text names (Idx lit) = difference_text names lit.left lit.right ++ bound_sign lit.exact ++ signed_decimal lit.bound
lit_text names (Ptr lit) = pointer_text names lit.left ++ same_sign lit.same ++ pointer_text names lit.right
