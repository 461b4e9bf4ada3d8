-- The values that are made of two parts.
use Rattle.std.proofs.Common.{◌≡◌, ℕ, ◌+◌, ◌-◌, ◌<◌, ◌≤◌, List, [], ◌∷◌, ◌++◌, length, take, drop, refl, sym, ap, ◌∙◌, subst, arith}
use Rattle.std.proofs.lemmas.List.{take_at, length-append, append_cancel_left, take-append-drop, length-take-le, length-drop}
use Rattle.std.proofs.Math.Seq.{take-add}
use Rattle.mongo_bson.specs.Framed.{IsFramed}
use Rattle.mongo_bson.specs.Document.{Holds, string, regular_expression, db_pointer, IsString}
use Rattle.mongo_bson.specs.Reading.{IsAtFront, NoneAtFront, BeginsWithCstring, HasNoCstring, IsCodeAndScope}
use Rattle.mongo_bson.proofs.Cstrings.{one_cstring}
use Rattle.mongo_bson.proofs.OneElement.{one_value, pair_at_front, id_at_front}

pub no_options : (bytes pattern rest : List ℕ) → BeginsWithCstring bytes pattern rest → HasNoCstring rest → NoneAtFront (Holds regular_expression) bytes
no_options bytes pattern rest first none front more (a, b, is) e =
    let one = one_cstring pattern a rest (b ++ 0 ∷ more) first.is_cstring.without_zero is.pattern_cstring.without_zero (sym first.spelled ∙ e ∙ pair_at_front front a b more is.spelled) in
    none b more is.options_cstring one.1

pub pattern_and_options : (bytes pattern middle options rest : List ℕ) → BeginsWithCstring bytes pattern middle → BeginsWithCstring middle options rest → IsAtFront (Holds regular_expression) bytes (length bytes - length rest)
pattern_and_options bytes pattern middle options rest first second =
    let both = pattern ++ (0 ∷ (options ++ 0 ∷ [])) in
    let whole : bytes ≡ both ++ rest = first.spelled ∙ ap (λ w. pattern ++ 0 ∷ w) second.spelled ∙ sym (pair_at_front both pattern options rest refl) in
    let size = ap length whole ∙ length-append both rest in
    let cut : take (length bytes - length rest) bytes ≡ both = ap (take (length bytes - length rest)) whole ∙ take_at both rest (length bytes - length rest) (omega (arith, size)) in
    record { within = omega arith; holds = (pattern, options, record { spelled = cut; pattern_cstring = first.is_cstring; options_cstring = second.is_cstring }) }

-- the string at the front is the one that was measured
measured_string : (bytes code rest : List ℕ) (size : ℕ) → IsAtFront IsString bytes size → IsString code → bytes ≡ code ++ rest → (code ≡ take size bytes) × (rest ≡ drop size bytes)
measured_string bytes code rest size at is e =
    let cut = take-append-drop size bytes in
    let same = one_value string code (take size bytes) rest (drop size bytes) is at.holds (sym e ∙ sym cut) in
    (same, append_cancel_left (take size bytes) rest (drop size bytes) (sym (ap (λ w. w ++ rest) same) ∙ sym e ∙ sym cut))

pub no_string_no_id : (bytes : List ℕ) → NoneAtFront IsString bytes → NoneAtFront (Holds db_pointer) bytes
no_string_no_id bytes none front rest (name, id, is) e = none name (id ++ rest) is.string (e ∙ id_at_front front name id rest is.spelled)

pub no_id : (bytes : List ℕ) (size : ℕ) → IsAtFront IsString bytes size → length bytes - size < 12 → NoneAtFront (Holds db_pointer) bytes
no_id bytes size at short front rest (name, id, is) e =
    let both = measured_string bytes name (id ++ rest) size at is.string (e ∙ id_at_front front name id rest is.spelled) in
    omega (arith, ap length both.1, length-append id rest, length-drop size bytes, is.twelve, short)

pub string_then_id : (bytes : List ℕ) (size : ℕ) → IsAtFront IsString bytes size → 12 ≤ length bytes - size → IsAtFront (Holds db_pointer) bytes (size + 12)
string_then_id bytes size at long =
    let id = take 12 (drop size bytes) in
    let twelve = length-take-le 12 (drop size bytes) (omega (arith, length-drop size bytes, long)) in
    record { within = omega (arith, at.within, long); holds = (take size bytes, id, record { spelled = take-add size 12 bytes; string = at.holds; twelve = twelve }) }

pub code_then_scope : (bytes : List ℕ) (size : ℕ) → IsAtFront IsString bytes size → IsFramed (drop size bytes) → IsCodeAndScope bytes
code_then_scope bytes size at framed = (take size bytes, drop size bytes, sym (take-append-drop size bytes), at.holds, framed)

pub scope_of_code : (bytes : List ℕ) (size : ℕ) → IsAtFront IsString bytes size → IsCodeAndScope bytes → IsFramed (drop size bytes)
scope_of_code bytes size at (code, scope, e, is, framed) = subst IsFramed (measured_string bytes code scope size at is e).1 framed
