-- The frame of a document and what it holds.
use Rattle.std.proofs.Common.{◌≡◌, ℕ, zero, suc, ◌+◌, ◌-◌, ◌^◌, ◌<◌, ◌≤◌, List, [], ◌∷◌, ◌++◌, length, take, drop, get_or, set, sym, ap, ◌∙◌, subst, arith}
use Rattle.std.specs.Int.{to_le_bytes, from_le_bytes, w32}
use Rattle.std.proofs.lemmas.List.{take_at, set_at, get_or_at, length-append, length-take-le, append_assoc, take-append-drop, drop-append-le, drop-take, drop_more, drop_all, length-drop, length-set}
use Rattle.std.specs.List.{All}
use Rattle.std.proofs.lemmas.List.Elements.{All-tail}
use Rattle.std.proofs.lemmas.Nat.{from_le_bytes-to_le_bytes_4, le_bytes_4}
use Rattle.mongo_bson.proofs.Sizes.{number_at_front}
use Rattle.mongo_bson.specs.Framed.{IsFramed, element_bytes, enclosed, maximum_length}

pub length-enclosed : (x : List ℕ) → length (enclosed x) ≡ length x + 5
length-enclosed x = omega (arith, length-append x (0 ∷ []))

-- what is enclosed are the bytes of its elements
pub element_bytes-enclosed : (x : List ℕ) → length x + 5 < 2 ^ 32 → element_bytes (enclosed x) ≡ x
element_bytes-enclosed x short = take_at x (0 ∷ []) (length (enclosed x) - 5) (omega (arith, length-enclosed x))

-- what is enclosed has a document's frame
pub framed-enclosed : (x : List ℕ) → length x + 5 ≤ maximum_length → IsFramed (enclosed x)
framed-enclosed x short =
    let size = length-enclosed x in
    let field = to_le_bytes w32 (length x + 5) in
    record {
      least = omega arith;
      most = omega arith;
      counted = from_le_bytes-to_le_bytes_4 (length x + 5) (omega arith) ∙ sym size;
      ended = ap (λ w. get_or w (length (enclosed x) - 1) 0) (sym (append_assoc field x (0 ∷ []))) ∙ get_or_at (field ++ x) 0 [] 0 (length (enclosed x) - 1) (omega (arith, length-append field x, size));
    }

-- bytes that end in a zero
last_is_zero : (b : List ℕ) (n : ℕ) → n + 1 ≡ length b → get_or b n 0 ≡ 0 → b ≡ take n b ++ 0 ∷ []
last_is_zero b n size ended =
    sym (take-append-drop n b) ∙ ap (λ w. take n b ++ w) (drop_more b n 0 (omega arith) ∙ ap (λ z. z ∷ drop (n + 1) b) ended ∙ ap (λ w. 0 ∷ w) (drop_all (n + 1) b (omega arith)))

-- without its last byte and its length, a document is the bytes of its elements
body_is : (b : List ℕ) → IsFramed b → drop 4 (take (length b - 1) b) ≡ element_bytes b
body_is b framed =
    ap (λ n. drop 4 (take n b)) (let e : length b - 1 ≡ 4 + (length b - 5) = omega (arith, framed.least) in e) ∙ drop-take 4 (length b - 5) b

byte_at : (b : List ℕ) → All (λ x. x < 256) b → (i : ℕ) → get_or b i 0 < 256
byte_at [] all i = omega arith
byte_at (x ∷ xs) all zero = all 0 0 (omega arith)
byte_at (x ∷ xs) all (suc i) = byte_at xs (All-tail (λ x. x < 256) x xs all) i

byte_below : (n : ℕ) (b : List ℕ) (i : ℕ) → ((i : ℕ) → get_or b i 0 < 256) → get_or (take n b) i 0 < 256
byte_below zero b i bytes = omega arith
byte_below (suc n) [] i bytes = omega arith
byte_below (suc n) (x ∷ xs) zero bytes = bytes 0
byte_below (suc n) (x ∷ xs) (suc i) bytes = byte_below n xs i (λ k. bytes (suc k))

-- the final zero becomes the kind of what was written after it, and the length field is the new length
pub sealed : (old rest : List ℕ) (kind : ℕ) → IsFramed old → let whole = old ++ (rest ++ 0 ∷ []) in to_le_bytes w32 (length whole) ++ drop 4 (set whole (length old - 1) kind) ≡ enclosed (element_bytes old ++ (kind ∷ rest))
sealed old rest kind framed =
    let at = length old - 1 in
    let front = take at old in
    let more = rest ++ 0 ∷ [] in
    let element = kind ∷ rest in
    let whole = old ++ more in
    let cut : whole ≡ front ++ 0 ∷ more = ap (λ w. w ++ more) (last_is_zero old at (omega (arith, framed.least)) framed.ended) ∙ append_assoc front (0 ∷ []) more in
    let size : length front ≡ at = length-take-le at old (omega arith) in
    let written : set whole at kind ≡ front ++ kind ∷ more = ap (λ w. set w at kind) cut ∙ set_at front 0 more kind at size in
    let body : drop 4 (set whole at kind) ≡ (element_bytes old ++ element) ++ 0 ∷ [] = ap (drop 4) written ∙ drop-append-le 4 front (kind ∷ more) (omega (arith, framed.least)) ∙ ap (λ w. w ++ kind ∷ more) (body_is old framed) ∙ sym (append_assoc (element_bytes old) element (0 ∷ [])) in
    let total : length whole ≡ length (element_bytes old ++ element) + 5 = omega (arith, ap length cut, length-append front (0 ∷ more), length-append (element_bytes old) element, length-append rest (0 ∷ []), ap length (body_is old framed), length-drop 4 front, framed.least) in
    ap (λ n. to_le_bytes w32 n ++ drop 4 (set whole at kind)) total ∙ ap (λ w. to_le_bytes w32 (length (element_bytes old ++ element) + 5) ++ w) body

pub length-element_bytes : (b : List ℕ) → IsFramed b → length (element_bytes b) + 5 ≡ length b
length-element_bytes b framed = let cut = length-take-le (length b - 5) (drop 4 b) (omega (arith, length-drop 4 b)) in omega (arith, cut, framed.least)

-- a slice that was written whole is what its owner holds
pub written_whole : (n at kind : ℕ) (items given new : List ℕ) → n ≡ length items → given ≡ items → 4 ≤ length items → new ≡ to_le_bytes w32 (length given) ++ drop 4 (set given at kind) → take n (new ++ drop (length new) items) ≡ to_le_bytes w32 (length items) ++ drop 4 (set items at kind)
written_whole n at kind items given new size lent long written =
    let exact = written ∙ ap (λ g. to_le_bytes w32 (length g) ++ drop 4 (set g at kind)) lent in
    let same : length new ≡ length items = omega (arith, ap length exact, length-drop 4 (set items at kind), length-set items at kind) in
    take_at new (drop (length new) items) n (same ∙ sym size) ∙ exact

-- what was written after a document and sealed is the document with it at its end
pub appended : (old rest items new : List ℕ) (kind byte at : ℕ) → IsFramed old → items ≡ old ++ (rest ++ 0 ∷ []) → at ≡ length old → byte ≡ kind → new ≡ to_le_bytes w32 (length items) ++ drop 4 (set items (at - 1) byte) → new ≡ enclosed (element_bytes old ++ (kind ∷ rest))
appended old rest items new kind byte at framed is end same written =
    written
    ∙ ap (λ n. to_le_bytes w32 (length items) ++ drop 4 (set items (n - 1) byte)) end
    ∙ ap (λ k. to_le_bytes w32 (length items) ++ drop 4 (set items (length old - 1) k)) same
    ∙ ap (λ w. to_le_bytes w32 (length w) ++ drop 4 (set w (length old - 1) kind)) is
    ∙ sealed old rest kind framed

-- what has room leaves a document
pub framed_appended : (old more new : List ℕ) → IsFramed old → length old + length more ≤ maximum_length → new ≡ enclosed (element_bytes old ++ more) → IsFramed new
framed_appended old more new framed room e = subst IsFramed (sym e) (framed-enclosed (element_bytes old ++ more) (omega (arith, length-append (element_bytes old) more, length-element_bytes old framed, room)))

-- a document is its elements' bytes, enclosed, where its bytes are bytes
pub enclosed-element_bytes : (b : List ℕ) → IsFramed b → All (λ x. x < 256) b → enclosed (element_bytes b) ≡ b
enclosed-element_bytes b framed all =
    let bytes = byte_at b all in
    let front = length-take-le 4 b (omega (arith, framed.least)) in
    let number : length (element_bytes b) + 5 ≡ from_le_bytes w32 (take 4 b) = length-element_bytes b framed ∙ sym framed.counted ∙ ap (from_le_bytes w32) (sym (take-append-drop 4 b)) ∙ number_at_front (take 4 b) (drop 4 b) (omega (arith, front)) in
    let field : to_le_bytes w32 (length (element_bytes b) + 5) ≡ take 4 b = le_bytes_4 (take 4 b) (length (element_bytes b) + 5) front (λ i. byte_below 4 b i bytes) number in
    let tail : drop 4 b ≡ element_bytes b ++ 0 ∷ [] = ap (drop 4) (last_is_zero b (length b - 1) (omega (arith, framed.least)) framed.ended) ∙ drop-append-le 4 (take (length b - 1) b) (0 ∷ []) (omega (arith, length-take-le (length b - 1) b (omega arith), framed.least)) ∙ ap (λ w. w ++ 0 ∷ []) (body_is b framed) in
    ap (λ w. w ++ (element_bytes b ++ 0 ∷ [])) field ∙ ap (λ w. take 4 b ++ w) (sym tail) ∙ take-append-drop 4 b
