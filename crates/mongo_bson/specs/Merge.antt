-- Documents of which one is put at the end of the other, and documents that are given an `_id`.
use Rattle.std.specs.Prelude.{◌≡◌, ◌⊎◌, ℕ, List, ◌++◌, codes, Bool, true, false}
use Rattle.std.specs.List.{Contains}
use Rattle.mongo_bson.specs.Framed.{element_bytes, enclosed}
use Rattle.mongo_bson.specs.Document.{Element, spell}
use Rattle.mongo_bson.specs.Keys.{Fill, keys_of}
use Rattle.mongo_bson.specs.Find.{IsFirstOf, LacksKey}

-- a text stands in both
abbrev pub HaveCommon : List (List ℕ) → List (List ℕ) → Type 0
HaveCommon xs ys = (text : List ℕ) × Contains xs text × Contains ys text

-- elements fill both documents
pub record BothFilled (this other : List ℕ) : Type 0 where
  pub mine : List Element
  pub others : List Element
  pub fill : Fill (element_bytes this) mine
  pub fill_other : Fill (element_bytes other) others

-- a key stands in both documents
pub record ShareKey (this other : List ℕ) : Type 0 where
  pub both : BothFilled this other
  pub common : HaveCommon (keys_of both.mine) (keys_of both.others)

-- no key stands in both documents
pub record ShareNoKey (this other : List ℕ) : Type 0 where
  pub both : BothFilled this other
  pub apart : HaveCommon (keys_of both.mine) (keys_of both.others) → ⊥

-- whether a key stands in both
abbrev pub TellsShared : List ℕ → List ℕ → Bool → Type 0
TellsShared this other true = ShareKey this other
TellsShared this other false = ShareNoKey this other

-- the key of a document's id
abbrev pub id_key : List ℕ
id_key = codes "_id"

-- an object id under that key
abbrev pub id_element : List ℕ → Element
id_element id = record { kind = 0x07; key = id_key; value = id }

-- the id that was there, and the document as it was
pub record KeepsId (old new : List ℕ) (kind : ℕ) (value : List ℕ) : Type 0 where
  pub first : IsFirstOf (element_bytes old) id_key (record { kind = kind; key = id_key; value = value })
  pub same : new ≡ old

-- the id put first, the elements that were there after it
pub record PutsId (old new id : List ℕ) (kind : ℕ) (value : List ℕ) : Type 0 where
  pub none : LacksKey (element_bytes old) id_key
  pub is_id : kind ≡ 0x07
  pub bytes : value ≡ id
  pub first : new ≡ enclosed (spell (id_element id) ++ element_bytes old)

abbrev pub HasIdNow : List ℕ → List ℕ → List ℕ → ℕ → List ℕ → Type 0
HasIdNow old new id kind value = KeepsId old new kind value ⊎ PutsId old new id kind value
