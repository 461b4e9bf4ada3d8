-- Bytes that begin no request, and a request's op code and length.
use Rattle.std.proofs.Common.{rules, ◌≡◌, ℕ, ℤ, pos, ◌+◌, ◌<◌, ◌≤◌, ◌<ℤ◌, ◌⊎◌, FitsSigned, None, Some, List, [], ◌∷◌, ◌++◌, length, inl, inr, sym, ap, ◌∙◌, subst, arith, append-nil, append_assoc, length-append}
use Rattle.std.proofs.lemmas.Int.{ints}
use Rattle.std.specs.Int.{w32}
use Rattle.mongo_wire.specs.Header.{code_number, header_bytes, op_code_of, signed_at}
use Rattle.mongo_wire.specs.Rows.{FrameRow, IsUnfinished}
use Rattle.mongo_wire.specs.declared.error.ErrorKind.{ErrorKind}
use Rattle.mongo_wire.specs.declared.error.ErrorKind.TheVariants.{EndOfInput, InvalidResponse}
use Rattle.mongo_wire.specs.declared.fault.ResponseFault.TheVariants.{Sections}
use Rattle.mongo_wire.specs.declared.header.Header.{Header}
use Rattle.mongo_wire.specs.declared.op_code.OpCode.{OpCode}
use Rattle.mongo_wire.specs.declared.op_code.OpCode.TheVariants.{Message, Query}
use Rattle.mongo_wire.proofs.HeaderBack.{header_back}
use Rattle.mongo_wire.proofs.OneFrame.{frame_code, frame_tells_length, least_frame, row_no_frame, same_front, signed_in}
use Rattle.mongo_service.specs.Cut.{BeginsNoRequest, IsNoRequest}
use Rattle.mongo_server.specs.Announced.{maximum_message_length}
use Rattle.mongo_service.specs.Taken.{command_collection, IsQuery, IsQueryBody}

-- ---- the header of an OP_QUERY

query_code : (frame command : List ℕ) → IsQuery frame command → signed_at 12 frame ≡ code_number Query
query_code frame command q = ap (signed_at 12) q.spelled ∙ signed_in 12 q.header q.body (omega (arith, q.sixteen)) ∙ q.code

query_size : (frame command : List ℕ) → IsQuery frame command → signed_at 0 frame ≡ pos (length frame)
query_size frame command q = ap (signed_at 0) q.spelled ∙ signed_in 0 q.header q.body (omega (arith, q.sixteen)) ∙ q.counted

-- ---- the header of a frame that begins with these bytes

begun : (place : ℕ) (taken rest frame : List ℕ) → place + 4 ≤ length taken → frame ≡ taken ++ rest → signed_at place frame ≡ signed_at place taken
begun place taken rest frame there e = ap (signed_at place) e ∙ signed_in place taken rest there

two_codes : (z : ℤ) → z ≡ code_number Message → z ≡ code_number Query → ⊥
two_codes z p q = omega (arith, ints, p, q)

same_code : (a b : OpCode) → Some a ≡ Some b → a ≡ b
same_code a b e = cc

no_code : (a : OpCode) → None ≡ Some a → ⊥
no_code a e = cc

-- a number that has another op code, or none
pub unlike_code : (z : ℤ) (code other : OpCode) → op_code_of z ≡ Some other → op_code_of (code_number code) ≡ Some code → (other ≡ code → ⊥) → z ≡ code_number code → ⊥
unlike_code z code other is of differs same = differs (same_code other code (sym is ∙ ap op_code_of same ∙ of))

pub unknown : (z : ℤ) (code : OpCode) → op_code_of z ≡ None → op_code_of (code_number code) ≡ Some code → z ≡ code_number code → ⊥
unknown z code is of same = no_code code (sym is ∙ ap op_code_of same ∙ of)

-- a code that a number has has the number
coded : (z : ℤ) (code : OpCode) → op_code_of z ≡ Some code → code_number code ≡ z
coded z code known = search (ints, rules)

-- the number that stands in the bytes of a header
pub code_spelled : (h : Header) (code : OpCode) → FitsSigned w32 h.length → FitsSigned w32 h.request_id → FitsSigned w32 h.response_to → h.op_code ≡ code → signed_at 12 (header_bytes h) ≡ code_number code
code_spelled h code length_fits id_fits to_fits is = sym (coded (signed_at 12 (header_bytes h)) code ((header_back h length_fits id_fits to_fits).0 ∙ ap Some is))

-- the header of another op code
pub other_code : (taken : List ℕ) → 16 ≤ length taken → (signed_at 12 taken ≡ code_number Message → ⊥) → (signed_at 12 taken ≡ code_number Query → ⊥) → BeginsNoRequest taken
other_code taken whole no_message no_query frame rest document e within (inl (parts, is_frame, body_is)) =
    no_message (sym (begun 12 taken rest frame (omega arith) e) ∙ frame_code frame parts is_frame)
other_code taken whole no_message no_query frame rest document e within (inr q) = no_query (sym (begun 12 taken rest frame (omega arith) e) ∙ query_code frame document q)

-- an OP_QUERY's header whose length isn't 16 to the maximum
pub bad_length : (head : List ℕ) → length head ≡ 16 → signed_at 12 head ≡ code_number Query → (signed_at 0 head <ℤ pos 16) ⊎ (maximum_message_length <ℤ signed_at 0 head) → BeginsNoRequest head
bad_length head sixteen code outside frame rest document e within (inl (parts, is_frame, body_is)) =
    two_codes (signed_at 12 head) (sym (begun 12 head rest frame (omega (arith, sixteen)) e) ∙ frame_code frame parts is_frame) code
bad_length head sixteen code (inl short) frame rest document e within (inr q) =
    omega (arith, ints, short, sixteen, begun 0 head rest frame (omega (arith, sixteen)) e, query_size frame document q, ap length e, length-append head rest)
bad_length head sixteen code (inr long) frame rest document e within (inr q) =
    omega (arith, ints, long, within, begun 0 head rest frame (omega (arith, sixteen)) e, query_size frame document q)

-- a whole OP_QUERY whose body asks for no command
pub no_query_body : (head body : List ℕ) (size : ℕ) → length head ≡ 16 → signed_at 12 head ≡ code_number Query → pos (16 + size) ≡ signed_at 0 head → length body ≡ size → ((command : List ℕ) → IsQueryBody body command → ⊥)
    → BeginsNoRequest (head ++ body)
no_query_body head body size sixteen code counted whole none frame rest document e within (inl (parts, is_frame, body_is)) =
    let spelled : frame ≡ head ++ (body ++ rest) = e ∙ append_assoc head body rest in
    two_codes (signed_at 12 head) (sym (begun 12 head (body ++ rest) frame (omega (arith, sixteen)) spelled) ∙ frame_code frame parts is_frame) code
no_query_body head body size sixteen code counted whole none frame rest document e within (inr q) =
    let spelled : frame ≡ head ++ (body ++ rest) = e ∙ append_assoc head body rest in
    let apart = same_front q.header head q.body (body ++ rest) (sym q.spelled ∙ spelled) (q.sixteen ∙ sym sixteen) in
    let frame_size : pos (16 + size) ≡ pos (length frame) = counted ∙ sym (begun 0 head (body ++ rest) frame (omega (arith, sixteen)) spelled) ∙ query_size frame document q in
    let size_is : length q.body ≡ length body = omega (arith, ints, frame_size, whole, ap length q.spelled, length-append q.header q.body, q.sixteen) in
    let same = same_front q.body body [] rest (append-nil q.body ∙ apart.1) size_is in
    none document (subst (λ b. IsQueryBody b document) same.0 q.is_body)

-- an OP_MSG's bytes that call for a row
pub no_message : (taken : List ℕ) (kind : ErrorKind) → 16 ≤ length taken → signed_at 12 taken ≡ code_number Message → (kind ≡ EndOfInput → ⊥) → FrameRow maximum_message_length taken kind → BeginsNoRequest taken
no_message taken kind whole code other row frame rest document e within (inl (parts, is_frame, body_is)) =
    row_no_frame maximum_message_length taken rest frame [] kind parts row (λ ends. absurd (other ends)) is_frame within (sym e ∙ sym (append-nil frame))
no_message taken kind whole code other row frame rest document e within (inr q) = two_codes (signed_at 12 taken) code (sym (begun 12 taken rest frame (omega arith) e) ∙ query_code frame document q)

-- 16 zeros, which stand for bytes that nobody tells
abbrev pub untold_zeros : List ℕ
untold_zeros = 0 ∷ 0 ∷ 0 ∷ 0 ∷ 0 ∷ 0 ∷ 0 ∷ 0 ∷ 0 ∷ 0 ∷ 0 ∷ 0 ∷ 0 ∷ 0 ∷ 0 ∷ 0 ∷ []

pub untold_zeros_begin_none : BeginsNoRequest untold_zeros
untold_zeros_begin_none = other_code untold_zeros (omega arith) (λ e. omega (arith, ints, e)) (λ e. omega (arith, ints, e))

-- ---- bytes that are no whole request

least_query : (frame command : List ℕ) → IsQuery frame command → 20 ≤ length frame
least_query frame command q =
    let body = q.is_body.is_query in
    let after = command_collection ++ (0 ∷ (body.numbers ++ (q.is_body.document ++ body.more))) in
    omega (arith, ap length q.spelled, length-append q.header q.body, q.sixteen, ap length body.spelled, length-append body.flags after, body.flags_four)

-- no more than a header
pub few_bytes : (bytes : List ℕ) → length bytes ≤ 16 → IsNoRequest bytes
few_bytes bytes few document (inl (parts, is_frame, body_is)) = omega (arith, few, least_frame bytes parts is_frame)
few_bytes bytes few document (inr q) = omega (arith, few, least_query bytes document q)

-- fewer than the header counts
pub cut_short : (bytes : List ℕ) → pos (length bytes) <ℤ signed_at 0 bytes → IsNoRequest bytes
cut_short bytes short document (inl (parts, is_frame, body_is)) = omega (arith, ints, short, frame_tells_length bytes parts is_frame)
cut_short bytes short document (inr q) = omega (arith, ints, short, query_size bytes document q)

-- fewer bytes than were wanted, or none
abbrev pub IsShort : ℕ → List ℕ → Type 0
IsShort wanted taken = (length taken < wanted) ⊎ (taken ≡ [])

-- within a header
pub within_header : (taken : List ℕ) → IsShort 16 taken → IsNoRequest taken
within_header taken (inl fewer) = few_bytes taken (omega (arith, fewer))
within_header taken (inr none) = few_bytes taken (omega (arith, ap length none))

-- after a header
pub request_cut : (head taken : List ℕ) (wanted : ℕ) → length head ≡ 16 → pos (16 + wanted) ≡ signed_at 0 head → IsShort wanted taken → IsNoRequest (head ++ taken)
request_cut head taken wanted sixteen counted (inl fewer) =
    cut_short (head ++ taken) (omega (arith, ints, length-append head taken, sixteen, fewer, counted, signed_in 0 head taken (omega (arith, sixteen))))
request_cut head taken wanted sixteen counted (inr none) = few_bytes (head ++ taken) (omega (arith, length-append head taken, sixteen, ap length none))

pub unfinished : (maximum : ℤ) (taken : List ℕ) → IsUnfinished maximum taken → IsNoRequest taken
unfinished maximum taken (inl short) = few_bytes taken (omega (arith, short))
unfinished maximum taken (inr (passes, short)) = cut_short taken short

pub ended_within : (maximum : ℤ) (taken : List ℕ) → FrameRow maximum taken EndOfInput → IsNoRequest taken
ended_within maximum taken (inl short) = few_bytes taken (omega (arith, short.short))
ended_within maximum taken (inr (inl row)) = few_bytes taken (omega (arith, row.header))
ended_within maximum taken (inr (inr (inl short))) = cut_short taken short.short
ended_within maximum taken (inr (inr (inr none))) = absurd (other none.kind_is)
  where
    other : EndOfInput ≡ InvalidResponse Sections → ⊥
    other e = cc
