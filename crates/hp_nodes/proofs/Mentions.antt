-- The names that rows mention on their two sides.
use Rattle.std.proofs.Common.{◌≡◌, ℕ, zero, suc, ◌+◌, ◌<◌, ◌≤◌, List, [], ◌∷◌, ◌++◌, length, get_or, take, length-append, refl, sym, ap, ◌∙◌, arith, append_assoc, Option, Some, None}
use Rattle.std.proofs.lemmas.List.{append-nil, take_more}
use Rattle.std.proofs.lemmas.List.Elements.{Contains-append_left, Contains-append_right, All-contains}
use Rattle.std.specs.List.{All, Contains}
use Rattle.hp_lit.specs.declared.literal.Name.{Name}
use Rattle.hp_nodes.specs.Nodes.{AreNames, IsNamed, mentioned_by, number_of}

is_named : (names : List ℕ) (o : Option Name) → ((name : ℕ) → Contains (number_of o) name → Contains names name) → IsNamed names o
is_named names None h = tt
is_named names (Some n) h = h n.0 (0, omega arith, refl)

number_few : (o : Option Name) → length (number_of o) < 2
number_few None = omega arith
number_few (Some n) = omega arith

module _ (A : Type 0) (left right : A → Option Name) where
  abbrev front : A → List ℕ
  front x = number_of (left x) ++ number_of (right x)

  abbrev mentioned : List A → List ℕ
  mentioned rows = mentioned_by left right rows

  mentioned-more : (rows : List A) (row : A) → mentioned (rows ++ row ∷ []) ≡ mentioned rows ++ number_of (left row) ++ number_of (right row)
  mentioned-more [] row = append-nil (front row)
  mentioned-more (x ∷ rows) row =
      ap (λ ns. front x ++ ns) (mentioned-more rows row)
      ∙ sym (append_assoc (front x) (mentioned rows ++ number_of (left row)) (number_of (right row)))
      ∙ ap (λ ns. ns ++ number_of (right row)) (sym (append_assoc (front x) (mentioned rows) (number_of (left row))))

  mentions_left : (rows : List A) (k : ℕ) (d : A) → k < length rows → (name : ℕ) → Contains (number_of (left (get_or rows k d))) name → Contains (mentioned rows) name
  mentions_left [] k d h name c = absurd (omega arith)
  mentions_left (x ∷ rows) zero d h name c = Contains-append_left (front x) (mentioned rows) name (Contains-append_left (number_of (left x)) (number_of (right x)) name c)
  mentions_left (x ∷ rows) (suc k) d h name c = Contains-append_right (front x) (mentioned rows) name (mentions_left rows k d (omega arith) name c)

  mentions_right : (rows : List A) (k : ℕ) (d : A) → k < length rows → (name : ℕ) → Contains (number_of (right (get_or rows k d))) name → Contains (mentioned rows) name
  mentions_right [] k d h name c = absurd (omega arith)
  mentions_right (x ∷ rows) zero d h name c = Contains-append_left (front x) (mentioned rows) name (Contains-append_right (number_of (left x)) (number_of (right x)) name c)
  mentions_right (x ∷ rows) (suc k) d h name c = Contains-append_right (front x) (mentioned rows) name (mentions_right rows k d (omega arith) name c)

  pub named_left : (names : List ℕ) (rows : List A) → All (Contains names) (mentioned rows) → All (λ row. IsNamed names (left row)) rows
  named_left names rows all k d h = is_named names (left (get_or rows k d)) (λ name c. All-contains (Contains names) (mentioned rows) name all (mentions_left rows k d h name c))

  pub named_right : (names : List ℕ) (rows : List A) → All (Contains names) (mentioned rows) → All (λ row. IsNamed names (right row)) rows
  named_right names rows all k d h = is_named names (right (get_or rows k d)) (λ name c. All-contains (Contains names) (mentioned rows) name all (mentions_right rows k d h name c))

  mentions_few : (rows : List A) → length (mentioned rows) ≤ length rows + length rows
  mentions_few [] = omega arith
  mentions_few (x ∷ rows) =
      let one = length-append (number_of (left x)) (number_of (right x)) in
      let both = length-append (front x) (mentioned rows) in
      omega (arith, one, both, number_few (left x), number_few (right x), mentions_few rows)

  -- rows have at most two names each
  pub names_few : (rows : List A) (names : List ℕ) → AreNames (mentioned rows) names → length names ≤ length rows + length rows
  names_few rows names a = (let few = a.few in let most = mentions_few rows in omega arith)

  -- the names of one row more
  pub mentions_next : (rows : List A) (at : ℕ) (d : A) (old : List ℕ) → at < length rows → old ≡ mentioned (take at rows)
      → old ++ number_of (left (get_or rows at d)) ++ number_of (right (get_or rows at d)) ≡ mentioned (take (at + 1) rows)
  mentions_next rows at d old h e =
      let row = get_or rows at d in
      ap (λ ns. ns ++ number_of (left row) ++ number_of (right row)) e ∙ sym (mentioned-more (take at rows) row) ∙ ap mentioned (sym (take_more rows at d h))
