-- Words that are appended one after another.
use Rattle.std.proofs.Common.{◌≡◌, ℕ, zero, suc, ◌+◌, None, Some, List, [], ◌∷◌, ◌++◌, map, drop, refl, sym, ap, ◌∙◌, append_assoc, append-nil, arith, add-one}
use Rattle.std.proofs.Math.ListN.{drop_of_length-le}
use Rattle.std.proofs.Math.Seq.{drop-cons}
use Rattle.std.specs.List.{slice_get}
use Rattle.std.proofs.lemmas.Option.{slice_get_within, get_or_from_slice_get}
use Rattle.mongo_settings.specs.Line.{spaced, text_word}

-- a list from a place on is what stands there and the list from the next place on
drop-slice_get : (texts : List (List ℕ)) (index : ℕ) (text : List ℕ) → slice_get texts index ≡ Some text → drop index texts ≡ text ∷ drop (index + 1) texts
drop-slice_get texts index text there =
    let within = slice_get_within texts index text there in
    let here = get_or_from_slice_get texts index text [] there in
    rw (drop-cons texts index [], here, add-one) refl

-- a text's word and the words of those after it are the words of all
pub words_after : (out new whole : List ℕ) (texts : List (List ℕ)) (index : ℕ) (text : List ℕ) → slice_get texts index ≡ Some text → new ≡ out ++ 32 ∷ text_word text
    → out ++ spaced (map text_word (drop index texts)) ≡ whole → new ++ spaced (map text_word (drop (index + 1) texts)) ≡ whole
words_after out new whole texts index text there grown words =
    let rest = spaced (map text_word (drop (index + 1) texts)) in
    ap (λ l. l ++ rest) grown ∙ append_assoc out (32 ∷ text_word text) rest ∙ ap (λ l. out ++ spaced (map text_word l)) (sym (drop-slice_get texts index text there)) ∙ words

-- past a list's end nothing is left of it
drop-past : (texts : List (List ℕ)) (index : ℕ) → slice_get texts index ≡ None → drop index texts ≡ []
drop-past [] index past = drop_of_length-le [] (omega arith)
drop-past (text ∷ texts) zero past = cc
drop-past (text ∷ texts) (suc index) past = drop-past texts index past

pub no_words : (out whole : List ℕ) (texts : List (List ℕ)) (index : ℕ) → slice_get texts index ≡ None → out ++ spaced (map text_word (drop index texts)) ≡ whole → out ≡ whole
no_words out whole texts index past words =
    sym (append-nil out) ∙ ap (λ l. out ++ spaced (map text_word l)) (sym (drop-past texts index past)) ∙ words
