-- A document that is made of elements, one after another.
use Rattle.std.proofs.Common.{◌≡◌, ℕ, ◌+◌, ◌^◌, ◌<◌, ◌≤◌, Option, None, Some, option_map, option_and_then, List, [], ◌∷◌, ◌++◌, length, refl, sym, ap, ◌∙◌, append_assoc, append-nil, length-append, arith}
use Rattle.std.specs.List.{flat_map}
use Rattle.std.proofs.lemmas.Bool.{le-leb, lt-leb}
use Rattle.std.proofs.lemmas.Grind.{flat_map-append}
use Rattle.mongo_bson.specs.Framed.{element_bytes, enclosed, maximum_length}
use Rattle.mongo_bson.specs.Document.{Element, spell}
use Rattle.mongo_bson.proofs.Enclosed.{length-enclosed, element_bytes-enclosed}
use Rattle.mongo_command.specs.Literal.{document_of}
use Rattle.mongo_settings.specs.Kinds.{◌>>=◌, MeansNothing}
use Rattle.mongo_settings.specs.Properties.{document_within, IsPut, CannotPut}
use Rattle.mongo_settings.specs.declared.settings.SettingsError.{SettingsError}
use Rattle.mongo_settings.specs.declared.settings.SettingsError.TheVariants.{BadSettings, NotBuilt, OutOfMemory}

-- the document is that of the elements so far, which with those that are left are the whole
pub record Grows (document : List ℕ) (whole left : Option (List Element)) : Type 0 where
  pub done : List Element
  pub document_is : document ≡ document_of done
  pub whole_is : whole ≡ option_map (λ more. done ++ more) left

-- an element before others
abbrev pub before : Option Element → Option (List Element) → Option (List Element)
before element elements = do
  first ← element
  others ← elements
  Some (first ∷ others)

nothing_in_front : (whole : Option (List Element)) → whole ≡ option_map (λ more. [] ++ more) whole
nothing_in_front None = refl
nothing_in_front (Some elements) = refl

pub started : (document : List ℕ) (whole : Option (List Element)) → document ≡ enclosed [] → Grows document whole whole
started document whole empty = record { done = []; document_is = empty; whole_is = nothing_in_front whole }

one_more : (done : List Element) (e : Element) (document new : List ℕ) → document ≡ document_of done → length document ≤ maximum_length → new ≡ enclosed (element_bytes document ++ spell e) → new ≡ document_of (done ++ e ∷ [])
one_more done e document new is short put =
    let body = flat_map spell done in
    let fits : length body + 5 < 2 ^ 32 = omega (arith, length-enclosed body, ap length is, short) in
    put ∙ ap (λ b. enclosed (b ++ spell e)) (ap element_bytes is ∙ element_bytes-enclosed body fits)
    ∙ ap (λ b. enclosed (body ++ b)) (sym (append-nil (spell e))) ∙ ap enclosed (sym (flat_map-append spell done (e ∷ [])))

left_over : (done : List Element) (e : Element) (rest : Option (List Element)) → option_map (λ more. done ++ more) (before (Some e) rest) ≡ option_map (λ more. (done ++ e ∷ []) ++ more) rest
left_over done e None = refl
left_over done e (Some others) = ap Some (sym (append_assoc done (e ∷ []) others))

pub grown : (document new : List ℕ) (whole rest : Option (List Element)) (element : Option Element) → Grows document whole (before element rest) → length document ≤ maximum_length → IsPut element document new → Grows new whole rest
grown document new whole rest None grows short put = absurd put
grown document new whole rest (Some e) grows short put = record {
  done = grows.done ++ e ∷ [];
  document_is = one_more grows.done e document new grows.document_is short put;
  whole_is = grows.whole_is ∙ left_over grows.done e rest;
}

within : (elements : List Element) → length (document_of elements) ≤ maximum_length → document_within elements ≡ Some (document_of elements)
within elements short = rw (le-leb (length (document_of elements)) maximum_length short) refl

pub finished : (document : List ℕ) (whole : Option (List Element)) → Grows document whole (Some []) → length document ≤ maximum_length → option_and_then document_within whole ≡ Some document
finished document whole grows short =
    let all : whole ≡ Some grows.done = grows.whole_is ∙ ap Some (append-nil grows.done) in
    ap (option_and_then document_within) all ∙ within grows.done (omega (arith, ap length grows.document_is, short)) ∙ ap Some (sym grows.document_is)

beyond : (elements : List Element) → maximum_length < length (document_of elements) → document_within elements ≡ None
beyond elements long = rw (lt-leb (length (document_of elements)) maximum_length long) refl

-- a document that grows further is no shorter
too_long : (done : List Element) (e : Element) (rest : Option (List Element)) → maximum_length < length (document_of done) + length (spell e) → option_and_then document_within (option_map (λ more. done ++ more) (before (Some e) rest)) ≡ None
too_long done e None long = refl
too_long done e (Some others) long =
    let all = flat_map spell (done ++ e ∷ others) in
    let parts : length all ≡ length (flat_map spell done) + (length (spell e) + length (flat_map spell others)) = ap length (flat_map-append spell done (e ∷ others)) ∙ length-append (flat_map spell done) (spell e ++ flat_map spell others) ∙ ap (λ n. length (flat_map spell done) + n) (length-append (spell e) (flat_map spell others)) in
    beyond (done ++ e ∷ others) (omega (arith, parts, length-enclosed all, length-enclosed (flat_map spell done), long))

nothing : (document : List ℕ) (whole rest : Option (List Element)) (element : Option Element) → Grows document whole (before element rest) → CannotPut BadSettings element document → option_and_then document_within whole ≡ None
nothing document whole rest None grows cannot = ap (option_and_then document_within) grows.whole_is
nothing document whole rest (Some e) grows cannot =
    ap (option_and_then document_within) grows.whole_is ∙ too_long grows.done e rest (omega (arith, ap length grows.document_is, cannot))

pub growing_refused : (document : List ℕ) (whole rest : Option (List Element)) (element : Option Element) (error : SettingsError) → Grows document whole (before element rest) → CannotPut error element document → MeansNothing error (option_and_then document_within whole)
growing_refused document whole rest element OutOfMemory grows cannot = tt
growing_refused document whole rest element NotBuilt grows cannot = absurd cannot
growing_refused document whole rest element BadSettings grows cannot = nothing document whole rest element grows cannot
