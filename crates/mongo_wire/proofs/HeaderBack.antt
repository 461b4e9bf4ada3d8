-- A header is read back from its bytes.
use Rattle.std.proofs.Common.{rules, arith, ◌≡◌, ℤ, pos, Some, List, [], ◌++◌, ℕ, length, take, drop, FitsSigned, lit<, refl, sym, ap, ◌∙◌}
use Rattle.std.proofs.lemmas.Int.{to_z-of_z, ints}
use Rattle.std.proofs.lemmas.Nat.{from_le_bytes-to_le_bytes_4}
use Rattle.std.proofs.Math.Facts.{Fits-of_z}
use Rattle.std.specs.Int.{from_le_bytes, cast_signed, cast_unsigned, w32}
use Rattle.mongo_wire.specs.Frame.{int32}
use Rattle.mongo_wire.specs.Header.{header_bytes, header_with, op_code_of, code_number, signed_at}
use Rattle.mongo_wire.specs.Rows.{header_row, length_row}
use Rattle.mongo_wire.specs.declared.header.Header.{Header}
use Rattle.mongo_wire.specs.declared.op_code.OpCode.{OpCode}
use Rattle.mongo_wire.specs.declared.op_code.OpCode.TheVariants.{Reply, Query, Message, Compressed}
use Rattle.mongo_wire.proofs.Fields.{IsBytes, signed_field, fours}

signed_back : (z : ℤ) (rest : List ℕ) → FitsSigned w32 z → cast_signed w32 (from_le_bytes w32 (int32 z ++ rest)) ≡ z
signed_back z rest fits = ap (cast_signed w32) (from_le_bytes-to_le_bytes_4 (cast_unsigned w32 z) (Fits-of_z fits).fits) ∙ to_z-of_z w32 z fits

code_fits : (code : OpCode) → FitsSigned w32 (code_number code)
code_fits Reply = record { sfits = lit< tt }
code_fits Query = record { sfits = lit< tt }
code_fits Message = record { sfits = lit< tt }
code_fits Compressed = record { sfits = lit< tt }

code_back : (code : OpCode) → op_code_of (code_number code) ≡ Some code
code_back Reply = refl
code_back Query = refl
code_back Message = refl
code_back Compressed = refl

same_header : (length id to a b c : ℤ) (code : OpCode) → a ≡ length → b ≡ id → c ≡ to
    → (let h : Header = record { length = a; request_id = b; response_to = c; op_code = code } in h) ≡ record { length = length; request_id = id; response_to = to; op_code = code }
same_header length id to a b c code p q r = cc

-- the length that stands in a header's bytes, of which there are 16
pub length_back : (h : Header) → FitsSigned w32 h.length → signed_at 0 (header_bytes h) ≡ h.length
length_back h p = signed_back h.length (int32 h.request_id ++ (int32 h.response_to ++ int32 (code_number h.op_code))) p

pub sixteen_bytes : (h : Header) → length (header_bytes h) ≡ 16
sixteen_bytes h = refl

pub header_back : (h : Header) → FitsSigned w32 h.length → FitsSigned w32 h.request_id → FitsSigned w32 h.response_to
    → (op_code_of (signed_at 12 (header_bytes h)) ≡ Some h.op_code) × (header_with (header_bytes h) h.op_code ≡ h)
header_back h p q r =
    let code = int32 (code_number h.op_code) in (
      ap op_code_of (signed_back (code_number h.op_code) [] (code_fits h.op_code)) ∙ code_back h.op_code,
      same_header h.length h.request_id h.response_to _ _ _ h.op_code
          (length_back h p) (signed_back h.request_id (int32 h.response_to ++ code) q) (signed_back h.response_to code r),
    )

-- the row that a header calls for is the one of its bytes
pub row_back : (maximum : ℤ) (h : Header) → FitsSigned w32 h.length → header_row maximum (header_bytes h) ≡ length_row maximum h.length (Some h.op_code) (pos 0)
row_back maximum h p =
    let bytes = header_bytes h in
    ap (λ z. length_row maximum z (op_code_of (signed_at 12 bytes)) (signed_at 12 bytes)) (length_back h p)
    ∙ ap (λ code. length_row maximum h.length code (signed_at 12 bytes)) (ap op_code_of (signed_back (code_number h.op_code) [] (code_fits h.op_code)) ∙ code_back h.op_code)

-- the code that a number has has the number
code_at : (number : ℤ) (code : OpCode) → op_code_of number ≡ Some code → code_number code ≡ number
code_at number code known = search (ints, rules)

-- a header is spelled by the bytes that it was read from
pub header_spelled : (head : List ℕ) (h : Header) → IsBytes head → length head ≡ 16 → op_code_of (signed_at 12 head) ≡ Some h.op_code → h ≡ header_with head h.op_code → header_bytes h ≡ head
header_spelled head h small sixteen known is =
    ap header_bytes is
    ∙ (ap (λ a. a ++ (int32 (signed_at 4 head) ++ (int32 (signed_at 8 head) ++ int32 (code_number h.op_code)))) (signed_field 0 head small (omega arith))
    ∙ ap (λ b. take 4 head ++ (b ++ (int32 (signed_at 8 head) ++ int32 (code_number h.op_code)))) (signed_field 4 head small (omega arith))
    ∙ ap (λ c. take 4 head ++ (take 4 (drop 4 head) ++ (c ++ int32 (code_number h.op_code)))) (signed_field 8 head small (omega arith))
    ∙ ap (λ d. take 4 head ++ (take 4 (drop 4 head) ++ (take 4 (drop 8 head) ++ d))) (ap int32 (code_at (signed_at 12 head) h.op_code known) ∙ signed_field 12 head small (omega arith)))
    ∙ sym (fours head sixteen)
