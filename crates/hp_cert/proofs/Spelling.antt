-- What is listed of a reading is spelled: its leaves are, since they are valid, and its entries are numbered.
use Rattle.std.proofs.Common.{◌≡◌, ℕ, zero, suc, ◌+◌, ◌-◌, ◌<◌, ◌≤◌, ◌^◌, ◌⊎◌, inl, inr, List, [], ◌∷◌, ◌++◌, length, map, pos, ◌<ℤ◌, unsigned_abs, replicate, Option, arith, refl, sym, subst, ap, length-append}
use Rattle.std.specs.List.{All, Contains}
use Rattle.std.proofs.lemmas.Int.{ints}
use Rattle.std.proofs.lemmas.List.{length-map}
use Rattle.std.proofs.lemmas.List.Elements.{All-nil, All-cons, All-append, All-contains, All-map, All-replicate, All-weaker, Contains-append_left}
use Rattle.std.proofs.lemmas.Option.{slice_get_within}
use Rattle.hp_lit.specs.declared.line.Line.{Line}
use Rattle.hp_lit.specs.declared.literal.Name.{Name}
use Rattle.hp_lit.specs.declared.literal.IdxLit.{IdxLit}
use Rattle.hp_lit.specs.declared.literal.Lit.{Lit}
use Rattle.hp_lit.specs.declared.literal.Lit.TheVariants.{Num, Idx, Ptr}
use Rattle.hp_defs.specs.declared.names.Ground.{Ground}
use Rattle.hp_defs.specs.Names.{NameList}
use Rattle.hp_lit.specs.declared.proof.Choice.{Choice}
use Rattle.hp_lit.specs.declared.proof.Share.{Share}
use Rattle.hp_lit.specs.declared.proof.Step.{Step}
use Rattle.hp_lit.specs.Cycle.{IsLit, AreRowsOf, bound_sum}
use Rattle.hp_lit.specs.Leaf.{Taken, AreTaken, sum_bound, HasStrict}
use Rattle.hp_leaf.specs.declared.tree.LeafProof.{LeafProof}
use Rattle.hp_leaf.specs.declared.tree.LeafProof.TheVariants as leaf
use Rattle.hp_leaf.specs.declared.tree.Node.{Node}
use Rattle.hp_leaf.specs.declared.tree.Node.TheVariants.{Split, Leaf, Unopened}
use Rattle.hp_leaf.specs.Leaf.{IsValid}
use Rattle.hp_lit.specs.Pointers.{JoinsAll}
use Rattle.hp_leaf.specs.Tree.{lits_at, lit_at, Place, place_lits, children, Reads, Any}
use Rattle.hp_cert.specs.declared.refutation.Entry.{Entry}
use Rattle.hp_cert.specs.declared.refutation.Refutation.{Refutation}
use Rattle.hp_cert.specs.Entries.{entry_number, first_defs, all_defs, AreSplitLines, IsLineOf}
use Rattle.hp_cert.specs.Lines.{def_text}
use Rattle.hp_cert.specs.Spelled.{IsNumber, IsShare, IsStep, IsSpelledLeaf, IsSpelledNode, HasNumber, IsOnOneLine, HasOneLine, AreListed, AreOnOneLine, IsSpelled, IsReading}
use Rattle.hp_cert.proofs.OneLine.{def_on_one_line, line_on_one_line}
use Rattle.hp_cert.proofs.Splitting.{contains_first, contains_later, defs_rise, rises}

-- ---- leaves
number_at : (path : List Lit) (n : ℕ) (l : Lit) → IsLit path n l → length path ≤ 4294967295 → IsNumber n
number_at path n l at few = let w = slice_get_within path (n - 1) l at.1 in (at.0, omega (arith, at.0, w, few))

shares_taken : (path : List Lit) (ss : List Share) (ts : List Taken) → AreTaken path ss ts → length path ≤ 4294967295 → All IsShare ss
shares_taken path [] ts a few = All-nil IsShare
shares_taken path (s ∷ ss) [] a few = absurd a
shares_taken path (s ∷ ss) (t ∷ ts) a few =
    let share : IsShare s = record { number = number_at path s.lit (Num t.lit) a.0.0 few; some = a.0.2; narrow = subst (λ z. unsigned_abs z < 2 ^ 127) a.0.1 t.narrow } in
    All-cons IsShare s ss share (shares_taken path ss ts a.1 few)

some_share : (path : List Lit) (ss : List Share) (ts : List Taken) → AreTaken path ss ts → (sum_bound ts <ℤ pos 0) ⊎ ((sum_bound ts ≡ pos 0) × HasStrict ts) → 1 ≤ length ss
some_share path [] [] a (inl h) = absurd (omega (arith, ints, h))
some_share path [] [] a (inr h) = absurd h.1
some_share path [] (t ∷ ts) a h = absurd a
some_share path (s ∷ ss) ts a h = omega arith

steps_taken : (path : List Lit) (ss : List Step) (rs : List IdxLit) → AreRowsOf path ss rs → length path ≤ 4294967295 → All IsStep ss
steps_taken path [] rs a few = All-nil IsStep
steps_taken path (s ∷ ss) [] a few = absurd a
steps_taken path (s ∷ ss) (r ∷ rs) a few = All-cons IsStep s ss (number_at path s.lit (Idx a.0.lit) a.0.at few) (steps_taken path ss rs a.1 few)

some_step : (path : List Lit) (ss : List Step) (rs : List IdxLit) → AreRowsOf path ss rs → bound_sum rs <ℤ pos 0 → 1 ≤ length ss
some_step path [] [] a h = absurd (omega (arith, ints, h))
some_step path [] (r ∷ rs) a h = absurd a
some_step path (s ∷ ss) rs a h = omega arith

links_joined : (path : List Lit) (a : Option Name) (ns : List ℕ) (b : Option Name) → JoinsAll path a ns b → length path ≤ 4294967295 → All IsNumber ns
links_joined path a [] b h few = All-nil IsNumber
links_joined path a (n ∷ ns) b h few = All-cons IsNumber n ns (number_at path n (Ptr h.1.lit) h.1.at few) (links_joined path h.0 ns b h.2 few)

leaf_spelled : (path : List Lit) (proof : LeafProof) → IsValid path proof → length path ≤ 4294967295 → IsSpelledLeaf proof
leaf_spelled path (leaf.Num shares) v few = record { some = some_share path shares v.taken v.are_taken v.bound; rising = v.rising; each = shares_taken path shares v.taken v.are_taken few }
leaf_spelled path (leaf.Idx steps) v few = record { some = some_step path steps v.rows v.are_rows v.below; each = steps_taken path steps v.rows v.are_rows few }
leaf_spelled path (leaf.Ptr ne links) v few = (number_at path ne (Ptr v.lit) v.at few, links_joined path v.lit.left links v.lit.right v.joined few)

-- ---- trees
-- no path gets too long while so many nodes are read
AreShort : ℕ → List Place → Type 0
AreShort n [] = Unit {0}
AreShort n (p ∷ ps) = (length p + n ≤ 4294967295) × AreShort n ps

short_later : (n : ℕ) (ps : List Place) → AreShort (suc n) ps → AreShort n ps
unfolding AreShort
short_later n [] h = tt
short_later n (p ∷ ps) h = (omega (arith, h.0), short_later n ps h.1)

short_append : (n : ℕ) (ps qs : List Place) → AreShort n ps → AreShort n qs → AreShort n (ps ++ qs)
unfolding AreShort
short_append n [] qs h k = k
short_append n (p ∷ ps) qs h k = (h.0, short_append n ps qs h.1 k)

short_children : (n : ℕ) (p : Place) (line done left : ℕ) → length p + suc n ≤ 4294967295 → AreShort n (children p line done left)
unfolding AreShort
short_children n p line done zero h = tt
short_children n p line done (suc left) h =
    let c : Choice = record { line = line; lit = suc done } in
    (omega (arith, h, length-append p (c ∷ [])), short_children n p line (suc done) left h)

reads_spelled : (lines : List Line) (nodes : List Node) (places rest : List Place) → Reads Any lines nodes places rest → AreShort (length nodes) places
    → ((n : ℕ) → Contains nodes (Split n) → IsNumber n) → All IsSpelledNode nodes
unfolding AreShort
reads_spelled lines [] places rest h short split = All-nil IsSpelledNode
reads_spelled lines (node ∷ nodes) [] rest h short split = absurd h
reads_spelled lines (Split n ∷ nodes) (p ∷ ps) rest h short split =
    let count = length (lits_at lines n) in
    All-cons IsSpelledNode (Split n) nodes (split n (contains_first (Split n) nodes (Split n) refl))
    (reads_spelled lines nodes (children p n 0 count ++ ps) rest h.2
    (short_append (length nodes) (children p n 0 count) ps (short_children (length nodes) p n 0 count short.0) (short_later (length nodes) ps short.1))
    (λ m c. split m (contains_later (Split n) nodes (Split m) c)))
reads_spelled lines (Leaf proof ∷ nodes) (p ∷ ps) rest h short split =
    All-cons IsSpelledNode (Leaf proof) nodes (leaf_spelled (place_lits lines p) proof h.0 (omega (arith, short.0, length-map p (lit_at lines))))
    (reads_spelled lines nodes ps rest h.1 (short_later (length nodes) ps short.1) (λ m c. split m (contains_later (Leaf proof) nodes (Split m) c)))
reads_spelled lines (Unopened ∷ nodes) (p ∷ ps) rest h short split = absurd h

tree_spelled : (lines : List Line) (tree : List Node) → IsReading lines tree → length tree ≤ 4294967295 → ((n : ℕ) → Contains tree (Split n) → IsNumber n) → All IsSpelledNode tree
unfolding AreShort
tree_spelled lines tree r few split =
    let left = replicate (length r.waiting) Unopened in
    subst (All IsSpelledNode) (sym r.whole)
    (All-append IsSpelledNode r.made left
    (reads_spelled lines r.made ([] ∷ []) r.waiting r.reads (omega (arith, few, ap length r.whole, length-append r.made left), tt) (λ n c. split n (subst (λ t. Contains t (Split n)) (sym r.whole) (Contains-append_left r.made left (Split n) c))))
    (All-replicate IsSpelledNode (length r.waiting) Unopened tt))

-- ---- what `entries` lists
defs_listed : (names : NameList) → AreOnOneLine names → (n : ℕ) → n ≤ 4294967295 → AreListed (first_defs names n)
defs_listed names named n few = record {
  rising = rises 0 (map entry_number (first_defs names n)) (suc n) (defs_rise names n);
  numbers = each n few;
  texts = lines n;
}
  where
    lines : (n : ℕ) → All HasOneLine (first_defs names n)
    lines zero = All-nil HasOneLine
    lines (suc n) = All-append HasOneLine (first_defs names n) _ (lines n) (All-cons HasOneLine (record { number = suc n; text = def_text names (suc n) }) [] (def_on_one_line names named (suc n)) (All-nil HasOneLine))

    each : (n : ℕ) → n ≤ 4294967295 → All HasNumber (first_defs names n)
    each zero h = All-nil HasNumber
    each (suc n) h = All-append HasNumber (first_defs names n) _ (each n (omega (arith, h))) (All-cons HasNumber (record { number = suc n; text = def_text names (suc n) }) [] (omega arith, h) (All-nil HasNumber))

number_listed : (entries : List Entry) (n : ℕ) → All HasNumber entries → Contains (map entry_number entries) n → IsNumber n
number_listed entries n h c = All-contains IsNumber (map entry_number entries) n (All-map IsNumber entry_number entries h) c

pub spelled : (g : Ground) → AreOnOneLine g.names → (r : Refutation) → r.defs ≡ all_defs g.names → length g.names.definitions ≤ 4294967295 → AreSplitLines g r.tree r.lines → All HasNumber r.lines
    → length r.tree ≤ 4294967295 → IsReading g.lines r.tree → IsSpelled r
spelled g named r defs count lines numbers few reading = record {
  defs = subst AreListed (sym defs) (defs_listed g.names named (length g.names.definitions) count);
  lines = record {
    rising = lines.rising;
    numbers = numbers;
    texts = All-weaker (IsLineOf g) HasOneLine (λ entry h. subst IsOnOneLine (sym h.1) (line_on_one_line g named entry.number)) r.lines lines.texts;
  };
  tree = tree_spelled g.lines r.tree reading few (λ n c. number_listed r.lines n numbers ((lines.split n).1 c));
}
