-- A frame is passed on in one way.
use Rattle.std.proofs.Common.{◌≡◌, ℕ, ℤ, List, ◌++◌, drop, sym, ap, ◌∙◌, subst}
use Rattle.std.specs.List.{flat_map}
use Rattle.mongo_wire.proofs.OneFrame.{one_frame_parts, one_sections, short_tail}
use Rattle.mongo_wire.specs.Frame.{Frame, IsFrame, section_bytes}
use Rattle.mongo_wire.specs.Sending.{sections_frame}
use Rattle.mongo_proxy.specs.RelayedFrames.{Passed, Stand, IsCommand, IsReplyTo, after_command, after_reply, responds_to}
use Rattle.mongo_proxy.specs.declared.awaited.Asked.{Asked}
use Rattle.mongo_proxy.specs.declared.awaited.Awaited.{Awaited}

same_sections : (f g : List ℕ) (p q : Frame) (is : IsFrame f p) (also : IsFrame g q) → f ≡ g → flat_map section_bytes is.sections ≡ flat_map section_bytes also.sections
same_sections f g p q is also e =
    let rest : flat_map section_bytes is.sections ++ is.tail ≡ flat_map section_bytes also.sections ++ also.tail = sym (ap (drop 20) is.spelled) ∙ ap (drop 20) e ∙ ap (drop 20) also.spelled in
    ap (flat_map section_bytes) (one_sections is.sections also.sections is.tail also.tail is.each also.each (short_tail is.word is.tail p.checksum is.checksum_is) (short_tail also.word also.tail q.checksum also.checksum_is) rest).0

same_frame_parts : (f g : List ℕ) (p q : Frame) → IsFrame f p → IsFrame g q → f ≡ g → p ≡ q
same_frame_parts f g p q is also e = one_frame_parts g p q (subst (λ l. IsFrame l p) e is) also

same_passed : (c d : Passed) → c.frame ≡ d.frame → c.id ≡ d.id → c.sent ≡ d.sent → c ≡ d
same_passed c d p q r = ap (λ f. record { frame = f; id = c.id; sent = c.sent }) p ∙ ap (λ i. record { frame = d.frame; id = i; sent = c.sent }) q ∙ ap (λ s. record { frame = d.frame; id = d.id; sent = s }) r

pub same_stand : (s t : Stand) → s.awaited ≡ t.awaited → s.id ≡ t.id → s ≡ t
same_stand s t p q = ap (λ a. record { awaited = a; id = s.id }) p ∙ ap (λ i. record { awaited = t.awaited; id = i }) q

pub one_command : (id : ℤ) (c d : Passed) (a b : Awaited) → IsCommand id c a → IsCommand id d b → c.frame ≡ d.frame → (c ≡ d) × (a ≡ b)
one_command id c d a b p q e =
    let parts = same_frame_parts c.frame d.frame p.parts q.parts p.is_frame q.is_frame e in
    let ids = p.id_is ∙ sym q.id_is in
    let sent =
    p.sent_is ∙ ap (λ i. sections_frame i p.parts.response_to p.parts.flags (flat_map section_bytes p.is_frame.sections)) ids ∙ ap (λ z. sections_frame d.id z.response_to z.flags (flat_map section_bytes p.is_frame.sections)) parts
    ∙ ap (sections_frame d.id q.parts.response_to q.parts.flags) (same_sections c.frame d.frame p.parts q.parts p.is_frame q.is_frame e) ∙ sym q.sent_is in
    (same_passed c d e ids sent, p.after_is ∙ ap (λ z. after_command z.flags (record { original_id = z.request_id; drawn_id = id })) parts ∙ sym q.after_is)

pub one_reply : (asked : Asked) (c d : Passed) (a b : Awaited) → IsReplyTo asked c a → IsReplyTo asked d b → c.frame ≡ d.frame → (c ≡ d) × (a ≡ b)
one_reply asked c d a b p q e =
    let parts = same_frame_parts c.frame d.frame p.parts q.parts p.is_frame q.is_frame e in
    let ids = p.id_is ∙ ap (λ z. z.request_id) parts ∙ sym q.id_is in
    let sent =
    p.sent_is ∙ ap (λ i. sections_frame i (responds_to asked p.parts.response_to) p.parts.flags (flat_map section_bytes p.is_frame.sections)) ids ∙ ap (λ z. sections_frame d.id (responds_to asked z.response_to) z.flags (flat_map section_bytes p.is_frame.sections)) parts
    ∙ ap (sections_frame d.id (responds_to asked q.parts.response_to) q.parts.flags) (same_sections c.frame d.frame p.parts q.parts p.is_frame q.is_frame e) ∙ sym q.sent_is in
    (same_passed c d e ids sent, p.after_is ∙ ap (λ z. after_reply z.flags asked) parts ∙ sym q.after_is)
