-- User names as messages carry them: each has one name, and is a text exactly where the name is.
use Rattle.std.proofs.Common.{◌≡◌, ◌≢◌, ◌⊎◌, ◌<◌, ◌≤◌, ◌==◌, ℕ, zero, suc, true, List, [], ◌∷◌, ◌++◌, length, get_or, drop, if◌then◌else◌, refl, ap, sym, subst, ◌∙◌, inl, inr, arith, length-append}
use Rattle.std.specs.List.{AllByRecursion}
use Rattle.std.specs.Str.{IsUtf8}
use Rattle.std.proofs.lemmas.Bool.{cases_eq, ne_eqb, lt-ltb, and_parts}
use Rattle.std.proofs.lemmas.Grind.{flat_map-append}
use Rattle.std.proofs.lemmas.Str.{IsUtf8-from_ascii, IsUtf8-nil, IsUtf8-append, IsUtf8-encode, IsUtf8-past_char, length-encode, len_utf8_bounds}
use Rattle.std.proofs.lemmas.Str.Ascii.{IsAscii-nil, IsAscii-cons}
use lib.Utf8.{encode, encodes, scalars, scalar}
use Rattle.std.specs.Char.{IsScalar}
use Rattle.mongo_scram.specs.ServerMessages.{HasNo}
use Rattle.mongo_scram.specs.UserName.{escaped, escaped_byte, comma_code, equals_code}
use Rattle.mongo_server.specs.ClientMessages.{IsSaslName}
use Rattle.mongo_scram.proofs.Parts.{heads, tails}
use Rattle.mongo_scram.proofs.Escaped.{IsPlain, escaped_byte-plain, escaped-plain, encode-plain, other_character}

-- ---- one name

-- a byte is one of the two that are escaped, or stays as it is
by_byte : (Holds : ℕ → Type 0) → Holds 0x3D → Holds 0x2C → ((byte : ℕ) → IsPlain byte → Holds byte) → (byte : ℕ) → Holds byte
by_byte Holds equals comma plain byte = elim (cases_eq byte 0x3D) [
  | inl is ↦ subst Holds (sym is) equals
  | inr not_equals ↦ elim (cases_eq byte 0x2C) [
    | inl is ↦ subst Holds (sym is) comma
    | inr not_comma ↦ plain byte (not_equals, not_comma)
  ]
]

-- the byte that stands escaped at the front, and what follows it
abbrev front_byte : List ℕ → ℕ
front_byte text = if get_or text 0 0 == 0x3D then (if get_or text 1 0 == 0x33 then 0x3D else 0x2C) else get_or text 0 0

abbrev behind_front : List ℕ → List ℕ
behind_front text = if get_or text 0 0 == 0x3D then drop 3 text else drop 1 text

front-escaped : (byte : ℕ) (rest : List ℕ) → front_byte (escaped_byte byte ++ rest) ≡ byte
front-escaped byte rest =
    by_byte (λ b. front_byte (escaped_byte b ++ rest) ≡ b) refl refl
    (λ b plain. rw (ne_eqb b 0x3D plain.0, ne_eqb b 0x2C plain.1, ne_eqb b 0x3D plain.0) refl) byte

behind-escaped : (byte : ℕ) (rest : List ℕ) → behind_front (escaped_byte byte ++ rest) ≡ rest
behind-escaped byte rest =
    by_byte (λ b. behind_front (escaped_byte b ++ rest) ≡ rest) refl refl
    (λ b plain. rw (ne_eqb b 0x3D plain.0, ne_eqb b 0x2C plain.1, ne_eqb b 0x3D plain.0) refl) byte

nonempty : (byte : ℕ) (rest : List ℕ) → escaped_byte byte ++ rest ≡ [] → ⊥
nonempty byte rest =
    by_byte (λ b. escaped_byte b ++ rest ≡ [] → ⊥) (λ never. absurd (cc never)) (λ never. absurd (cc never))
    (λ b plain. rw (escaped_byte-plain b plain) (λ never. absurd (cc never))) byte

pub escaped_same : (a b : List ℕ) → escaped a ≡ escaped b → a ≡ b
escaped_same [] [] same = refl
escaped_same [] (c ∷ b) same = absurd (nonempty c (escaped b) (sym same))
escaped_same (c ∷ a) [] same = absurd (nonempty c (escaped a) same)
escaped_same (c ∷ a) (d ∷ b) same =
    let first : c ≡ d = sym (front-escaped c (escaped a)) ∙ ap front_byte same ∙ front-escaped d (escaped b) in
    let rest : a ≡ b = escaped_same a b (sym (behind-escaped c (escaped a)) ∙ ap behind_front same ∙ behind-escaped d (escaped b)) in
    λ i. first i ∷ rest i

-- a front with nothing that is escaped is the name's front
plain_front : (front rest name : List ℕ) → AllByRecursion IsPlain front → front ++ rest ≡ escaped name → (more : List ℕ) × (name ≡ front ++ more) × (rest ≡ escaped more)
plain_front [] rest name p same = (name, refl, same)
plain_front (c ∷ front) rest [] p same = absurd (cc same)
plain_front (c ∷ front) rest (b ∷ name) p same =
    let text = ap (λ x. x ++ (front ++ rest)) (escaped_byte-plain c p.0) ∙ same in
    let first : c ≡ b = sym (front-escaped c (front ++ rest)) ∙ ap front_byte text ∙ front-escaped b (escaped name) in
    let more = plain_front front rest name p.1 (sym (behind-escaped c (front ++ rest)) ∙ ap behind_front text ∙ behind-escaped b (escaped name)) in
    (more.0, λ i. sym first i ∷ more.1 i, more.2)

-- ---- the name at the first `=`

plain : (bytes : List ℕ) → HasNo 0x3D bytes → HasNo 0x2C bytes → AllByRecursion IsPlain bytes
plain [] p q = tt
plain (byte ∷ bytes) p q = ((p.0, q.0), plain bytes p.1 q.1)

comma_front : (bytes rest : List ℕ) → HasNo 0x2C (bytes ++ rest) → HasNo 0x2C bytes
comma_front [] rest p = tt
comma_front (byte ∷ bytes) rest p = (p.0, comma_front bytes rest p.1)

comma_back : (bytes rest : List ℕ) → HasNo 0x2C (bytes ++ rest) → HasNo 0x2C rest
comma_back [] rest p = p
comma_back (byte ∷ bytes) rest p = comma_back bytes rest p.1

-- a text with no `=` and no comma is a name's, its own
pub plain_name : (text : List ℕ) → HasNo 0x3D text → HasNo 0x2C text → IsSaslName text
plain_name text p q = (text, sym (escaped-plain text (plain text p q)))

-- a code behind `=`, of the byte that it stands for
pub record IsCode (code after : List ℕ) : Type 0 where
  pub byte : ℕ
  pub coded : 0x3D ∷ code ≡ escaped_byte byte ++ after

pub code_of : (code after : List ℕ) → (code ≡ equals_code ++ after) ⊎ (code ≡ comma_code ++ after) → IsCode code after
code_of code after (inl is) = record { byte = 0x3D; coded = ap (λ x. 0x3D ∷ x) is }
code_of code after (inr is) = record { byte = 0x2C; coded = ap (λ x. 0x3D ∷ x) is }

-- what follows a plain front is a name where the whole is
behind_plain : (front rest : List ℕ) → AllByRecursion IsPlain front → IsSaslName (front ++ rest) → IsSaslName rest
behind_plain front rest p (name, same) = let cut = plain_front front rest name p same in (cut.0, cut.2)

-- and what follows a code
behind_code : (code after : List ℕ) → IsCode code after → IsSaslName (0x3D ∷ code) → IsSaslName after
behind_code code after is ([], same) = absurd (cc same)
behind_code code after is (b ∷ name, same) = (name, sym (behind-escaped is.byte after) ∙ ap behind_front (sym is.coded ∙ same) ∙ behind-escaped b (escaped name))

-- the whole is a name where what follows the code is
whole_name : (front code after : List ℕ) → AllByRecursion IsPlain front → IsCode code after → IsSaslName after → IsSaslName (front ++ (0x3D ∷ code))
whole_name front code after p is named = (
  front ++ (is.byte ∷ named.0),
  ap (λ x. front ++ x) (is.coded ∙ ap (λ x. escaped_byte is.byte ++ x) named.1)
      ∙ ap (λ x. x ++ (escaped_byte is.byte ++ escaped named.0)) (sym (escaped-plain front p))
      ∙ sym (flat_map-append escaped_byte front (is.byte ∷ named.0)),
)

-- a text cut at its first `=`, behind which a code stands
pub record IsCutAtEquals (text front code after : List ℕ) : Type 0 where
  pub joined : text ≡ front ++ (0x3D ∷ code)
  pub no_equals : HasNo 0x3D front
  pub is_code : IsCode code after

front_plain : (text front code after : List ℕ) → HasNo 0x2C text → IsCutAtEquals text front code after → AllByRecursion IsPlain front
front_plain text front code after none is = plain front is.no_equals (comma_front front (0x3D ∷ code) (subst (HasNo 0x2C) is.joined none))

coded_back : (code after : List ℕ) → IsCode code after → (code ≡ equals_code ++ after) ⊎ (code ≡ comma_code ++ after) → HasNo 0x2C code → HasNo 0x2C after
coded_back code after is (inl by) none = comma_back equals_code after (subst (HasNo 0x2C) by none)
coded_back code after is (inr by) none = comma_back comma_code after (subst (HasNo 0x2C) by none)

pub after_no_comma : (text front code after : List ℕ) → HasNo 0x2C text → text ≡ front ++ (0x3D ∷ code) → (code ≡ equals_code ++ after) ⊎ (code ≡ comma_code ++ after) → HasNo 0x2C after
after_no_comma text front code after none is by = coded_back code after (code_of code after by) by (comma_back front (0x3D ∷ code) (subst (HasNo 0x2C) is none)).1

pub whole_from : (text front code after : List ℕ) → HasNo 0x2C text → IsCutAtEquals text front code after → IsSaslName after → IsSaslName text
whole_from text front code after none is named = subst IsSaslName (sym is.joined) (whole_name front code after (front_plain text front code after none is) is.is_code named)

pub after_from : (text front code after : List ℕ) → HasNo 0x2C text → IsCutAtEquals text front code after → IsSaslName text → IsSaslName after
after_from text front code after none is named = behind_code code after is.is_code (behind_plain front (0x3D ∷ code) (front_plain text front code after none is) (subst IsSaslName is.joined named))

-- with no code behind its first `=`, a text is no name's
no_code_here : (code rest : List ℕ) (byte : ℕ) → 0x3D ∷ code ≡ escaped_byte byte ++ rest → ((more : List ℕ) → (code ≢ equals_code ++ more) × (code ≢ comma_code ++ more)) → ⊥
no_code_here code rest byte same none =
    by_byte (λ b. 0x3D ∷ code ≡ escaped_byte b ++ rest → ⊥)
    (λ here. (none rest).0 (tails 0x3D 0x3D code (equals_code ++ rest) here))
    (λ here. (none rest).1 (tails 0x3D 0x3D code (comma_code ++ rest) here))
    (λ b plain here. plain.0 (sym (heads 0x3D b code rest (here ∙ ap (λ x. x ++ rest) (escaped_byte-plain b plain)))))
    byte same

no_name_here : (code : List ℕ) → ((more : List ℕ) → (code ≢ equals_code ++ more) × (code ≢ comma_code ++ more)) → IsSaslName (0x3D ∷ code) → ⊥
no_name_here code none ([], same) = absurd (cc same)
no_name_here code none (b ∷ name, same) = no_code_here code (escaped name) b same none

pub no_escaped_name : (text front code : List ℕ) → HasNo 0x2C text → text ≡ front ++ (0x3D ∷ code) → HasNo 0x3D front → ((more : List ℕ) → (code ≢ equals_code ++ more) × (code ≢ comma_code ++ more)) → IsSaslName text → ⊥
no_escaped_name text front code no_comma is no_equals none named =
    no_name_here code none (behind_plain front (0x3D ∷ code) (plain front no_equals (comma_front front (0x3D ∷ code) (subst (HasNo 0x2C) is no_comma))) (subst IsSaslName is named))

-- ---- texts

pub escaped-no_comma : (name : List ℕ) → HasNo 0x2C (escaped name)
escaped-no_comma [] = tt
escaped-no_comma (byte ∷ name) =
    by_byte (λ b. HasNo 0x2C (escaped_byte b ++ escaped name))
    (λ is. absurd (omega arith), (λ is. absurd (omega arith), (λ is. absurd (omega arith), escaped-no_comma name)))
    (λ is. absurd (omega arith), (λ is. absurd (omega arith), (λ is. absurd (omega arith), escaped-no_comma name)))
    (λ b plain. subst (λ x. HasNo 0x2C (x ++ escaped name)) (sym (escaped_byte-plain b plain)) (plain.1, escaped-no_comma name)) byte

ascii_one : (a : ℕ) → a < 128 → IsUtf8 (a ∷ [])
ascii_one a p = IsUtf8-from_ascii (a ∷ []) (IsAscii-cons a [] p IsAscii-nil)

ascii_three : (a b c : ℕ) → a < 128 → b < 128 → c < 128 → IsUtf8 (a ∷ b ∷ c ∷ [])
ascii_three a b c p q r = IsUtf8-from_ascii (a ∷ b ∷ c ∷ []) (IsAscii-cons a (b ∷ c ∷ []) p (IsAscii-cons b (c ∷ []) q (IsAscii-cons c [] r IsAscii-nil)))

-- a text behind a byte of ASCII is one
pub past_ascii : (byte : ℕ) (rest : List ℕ) → byte < 128 → IsUtf8 (byte ∷ rest) → IsUtf8 rest
unfolding encode
past_ascii byte rest ascii text = IsUtf8-past_char (byte ∷ rest) rest byte text (rw (lt-ltb byte 128 ascii) refl)

past_three : (a b c : ℕ) (rest : List ℕ) → a < 128 → b < 128 → c < 128 → IsUtf8 (a ∷ b ∷ c ∷ rest) → IsUtf8 rest
past_three a b c rest p q r text = past_ascii c rest r (past_ascii b (c ∷ rest) q (past_ascii a (b ∷ c ∷ rest) p text))

escaped_character : (c : ℕ) → IsScalar c → IsUtf8 (escaped (encode c))
unfolding encode
escaped_character =
    by_byte (λ c. IsScalar c → IsUtf8 (escaped (encode c)))
    (λ is_scalar. ascii_three 61 51 68 (omega arith) (omega arith) (omega arith))
    (λ is_scalar. ascii_three 61 50 67 (omega arith) (omega arith) (omega arith))
    (λ c plain is_scalar. subst IsUtf8 (sym (other_character c plain.0 plain.1)) (IsUtf8-encode c is_scalar))

escaped_characters : (cs : List ℕ) → scalars cs ≡ true → IsUtf8 (escaped (encodes cs))
escaped_characters [] all = IsUtf8-nil
escaped_characters (c ∷ cs) all =
    let parts = and_parts (scalar c) (scalars cs) all in
    subst IsUtf8 (sym (flat_map-append escaped_byte (encode c) (encodes cs))) (IsUtf8-append (escaped (encode c)) (escaped (encodes cs)) (escaped_character c parts.0) (escaped_characters cs parts.1))

pub escaped_text : (name : List ℕ) → IsUtf8 name → IsUtf8 (escaped name)
escaped_text name text = subst (λ x. IsUtf8 (escaped x)) text.1.1 (escaped_characters text.0 text.1.0)

-- the first character of a name that begins with a byte that stays as it is
pub record BeginsWithCharacter (name : List ℕ) : Type 0 where
  pub character : ℕ
  pub more : List ℕ
  pub is_scalar : IsScalar character
  pub joined : name ≡ encode character ++ more
  pub text : IsUtf8 (escaped more)

first_is : (c byte : ℕ) (rest name : List ℕ) → IsPlain byte → encode c ++ rest ≡ escaped (byte ∷ name) → IsPlain c
unfolding encode
first_is c byte rest name plain_byte same =
    let here : encode c ++ rest ≡ byte ∷ escaped name = same ∙ ap (λ x. x ++ escaped name) (escaped_byte-plain byte plain_byte) in (
      λ is. plain_byte.0 (let at : 0x3D ∷ rest ≡ byte ∷ escaped name = ap (λ b. encode b ++ rest) (sym is) ∙ here in let first : 0x3D ≡ byte = cc at in sym first),
      λ is. plain_byte.1 (let at : 0x2C ∷ rest ≡ byte ∷ escaped name = ap (λ b. encode b ++ rest) (sym is) ∙ here in let first : 0x2C ≡ byte = cc at in sym first),
    )

first_character : (byte : ℕ) (name cs : List ℕ) → IsPlain byte → scalars cs ≡ true → encodes cs ≡ escaped (byte ∷ name) → BeginsWithCharacter (byte ∷ name)
first_character byte name [] p all same = absurd (nonempty byte (escaped name) (sym same))
first_character byte name (c ∷ cs) p all same =
    let parts = and_parts (scalar c) (scalars cs) all in
    let more = plain_front (encode c) (encodes cs) (byte ∷ name) (encode-plain c (first_is c byte (encodes cs) name p same)) same in
    record { character = c; more = more.0; is_scalar = parts.0; joined = more.1; text = (cs, (parts.1, more.2)) }

shorter : (name : List ℕ) (n : ℕ) (b : BeginsWithCharacter name) → length name ≤ suc n → length b.more ≤ n
shorter name n b within =
    omega (arith, ap length b.joined, length-append (encode b.character) b.more, length-encode b.character, (len_utf8_bounds b.character).0)

unescaped_text_within : (n : ℕ) (name : List ℕ) → length name ≤ n → IsUtf8 (escaped name) → IsUtf8 name
unescaped_text_within n [] within text = IsUtf8-nil
unescaped_text_within zero (byte ∷ name) within text = absurd (omega arith)
unescaped_text_within (suc n) (byte ∷ name) within text =
    by_byte (λ b. IsUtf8 (escaped_byte b ++ escaped name) → IsUtf8 (b ∷ name))
    (λ coded. IsUtf8-append (61 ∷ []) name (ascii_one 61 (omega arith)) (unescaped_text_within n name (omega arith) (past_three 61 51 68 (escaped name) (omega arith) (omega arith) (omega arith) coded)))
    (λ coded. IsUtf8-append (44 ∷ []) name (ascii_one 44 (omega arith)) (unescaped_text_within n name (omega arith) (past_three 61 50 67 (escaped name) (omega arith) (omega arith) (omega arith) coded)))
    (λ b plain whole.
    let first = first_character b name whole.0 plain whole.1.0 whole.1.1 in
    subst IsUtf8 (sym first.joined) (IsUtf8-append (encode first.character) first.more (IsUtf8-encode first.character first.is_scalar) (unescaped_text_within n first.more (shorter (b ∷ name) n first within) first.text)))
    byte text

pub unescaped_text : (name : List ℕ) → IsUtf8 (escaped name) → IsUtf8 name
unescaped_text name text = unescaped_text_within (length name) name (omega arith) text
