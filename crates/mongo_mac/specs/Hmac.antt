-- HMAC (RFC 2104, section 2) as an equation over lists of bytes. `h` is the hash function H, with
-- blocks of B = 64 bytes.
use Rattle.std.specs.Prelude.{ℕ, ◌-◌, List, ◌++◌, length, replicate, nat_lt, if◌then◌else◌}
use Rattle.mongo_mac.specs.Bytes.{xor_bytes}

-- ipad: the byte 0x36 repeated B times
abbrev pub ipad : List ℕ
ipad = replicate 64 0x36

-- opad: the byte 0x5C repeated B times
abbrev pub opad : List ℕ
opad = replicate 64 0x5C

-- the key K that HMAC uses: a key longer than B bytes is hashed first
unfoldable pub short_key : (List ℕ → List ℕ) → List ℕ → List ℕ
short_key h key = if nat_lt 64 (length key) then h key else key

-- zeros appended to the end of K, to B bytes
unfoldable pub key_block : (List ℕ → List ℕ) → List ℕ → List ℕ
key_block h key = short_key h key ++ replicate (64 - length (short_key h key)) 0

-- H(K XOR opad, H(K XOR ipad, text))
unfoldable pub hmac_of : (List ℕ → List ℕ) → List ℕ → List ℕ → List ℕ
hmac_of h key text =
    h (xor_bytes (key_block h key) opad ++ h (xor_bytes (key_block h key) ipad ++ text))

-- the two blocks that stand for a key (RFC 2104, section 4): K XOR ipad and K XOR opad
pub record Pads : Type 0 where
  pub inner : List ℕ
  pub outer : List ℕ

-- the blocks of a key
unfoldable pub pads_of : (List ℕ → List ℕ) → List ℕ → Pads
pads_of h key = record {
  inner = xor_bytes (key_block h key) ipad;
  outer = xor_bytes (key_block h key) opad;
}

-- the HMAC of a text under the key that the blocks stand for
unfoldable pub mac_of : (List ℕ → List ℕ) → Pads → List ℕ → List ℕ
mac_of h pads text = h (pads.outer ++ h (pads.inner ++ text))
