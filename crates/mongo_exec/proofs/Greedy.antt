-- As many documents from the front as there is room for.
use Rattle.std.proofs.Common.{◌≡◌, ◌⊎◌, ℕ, zero, suc, inl, inr, ◌+◌, ◌<◌, ◌≤◌, List, length, take, get_or, ◌∙◌, sym, subst, arith}
use Rattle.std.proofs.lemmas.List.{take-take, length-take, get_or-take}
use Rattle.mongo_wire.specs.Measure.{documents_bytes}
use Rattle.mongo_wire.proofs.Passed.{length_within}

-- the documents before one, and it, are no more than those of a longer front
pub within_front : (documents : List (List ℕ)) (i n : ℕ) (document : List ℕ) → i < n → n ≤ length documents → document ≡ get_or documents i document → length (documents_bytes (take i documents)) + length document ≤ length (documents_bytes (take n documents))
within_front documents i n document less most at =
    let front = take n documents in
    let many : length front ≡ n = omega (arith, length-take n documents) in
    let same : take i front ≡ take i documents = take-take i n documents (omega arith) in
    let here : document ≡ get_or front i document = at ∙ sym (get_or-take n documents i document less) in
    subst (λ t. length (documents_bytes t) + length document ≤ length (documents_bytes front)) same (length_within (λ d. d) front i document (omega (arith, many)) here)

le_or_lt : (n i : ℕ) → (n ≤ i) ⊎ (i < n)
le_or_lt zero i = inl (omega arith)
le_or_lt (suc n) zero = inr (omega arith)
le_or_lt (suc n) (suc i) = elim (le_or_lt n i) [ inl p ↦ inl (omega (arith, p)) | inr p ↦ inr (omega (arith, p)) ]

-- where a document has no room after those before it, no more than those have
pub front_within : (documents : List (List ℕ)) (i n room : ℕ) (document : List ℕ) → n ≤ length documents → document ≡ get_or documents i document → room < length (documents_bytes (take i documents)) + length document → length (documents_bytes (take n documents)) ≤ room → n ≤ i
front_within documents i n room document most at over short = elim (le_or_lt n i) [
  | inl within ↦ within
  | inr beyond ↦ absurd (omega (arith, over, short, within_front documents i n document beyond most at))
]
