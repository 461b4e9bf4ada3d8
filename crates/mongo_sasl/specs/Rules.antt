-- Rules: a mechanism's rules for a credential in their order, each with its fault and whether the credential breaks it.
use Rattle.std.specs.Prelude.{ℕ, ◌==◌, Bool, false, not, Option, None, Some, Result, Ok, Err, List, [], ◌∷◌, bytes_eq, if◌then◌else◌, is_some, option_and_then, unwrap_or}
use Rattle.mongo_bson.specs.Document.{Element, text_of}
use Rattle.mongo_bson.specs.Framed.{enclosed}
use Rattle.mongo_wire.specs.declared.fault.ArgumentFault.{ArgumentFault}
use Rattle.mongo_command.specs.Field.{field_of}
use Rattle.mongo_sasl.specs.declared.rules.Rule.{Rule}
use Rattle.mongo_sasl.specs.declared.credential.Credential.{Credential}

-- the fault of the first broken rule
abbrev pub first_broken : List Rule → Result (Unit {0}) ArgumentFault
first_broken [] = Ok tt
first_broken (rule ∷ rules) = if rule.broken then Err rule.fault else first_broken rules

abbrev pub rule : ArgumentFault → Bool → Rule
rule fault broken = record { fault = fault; broken = broken }

-- ---- what rules are made of

-- a text is there and is another than this
abbrev pub is_other_than : List ℕ → Option (List ℕ) → Bool
is_other_than text None = false
is_other_than text (Some given) = not (bytes_eq given text)

-- the properties of a credential; without any they are empty
abbrev pub properties_of : Credential → List ℕ
properties_of c = unwrap_or c.mechanism_properties (enclosed [])

-- a property of this name is there; where a name stands twice the first counts
abbrev pub has_property : List ℕ → List Element → Bool
has_property name properties = is_some (field_of name properties)

abbrev pub text_in : Element → Option (List ℕ)
text_in e = if e.kind == 0x02 then Some (text_of e.value) else None

-- the text of a property
abbrev pub text_property : List ℕ → List Element → Option (List ℕ)
text_property name properties = option_and_then text_in (field_of name properties)

-- a property of this name is there, and is no array
abbrev pub is_other_than_array : Option Element → Bool
is_other_than_array None = false
is_other_than_array (Some e) = not (e.kind == 0x04)
