use Rattle.std.proofs.Common.{◌≡◌, ◌∙◌, ◌^◌, ◌<◌, Option, None, Some, IfSome, Result, Ok, Err, IfOk, OnOk, length, sym, subst}
use Rattle.mongo_server.specs.Acceptance.{Accepts}
use Rattle.mongo_server.specs.Authentication.{first_of, server_final_of, IsReadAs}
use Rattle.mongo_generate.specs.Replies.{AreReplies, AreServerReplies}
use Rattle.mongo_generate.proofs.ReplySizes.{short_first, short_final}
use Rattle.mongo_generate.proofs.log_in.heard.Goals as goal

never : {A E Q : Type 0} (P : A → Type 0) (r : Result A E) → OnOk r (Q → ⊥) → Q → IfOk r P
never P (Ok v) not q = absurd (not q)
never P (Err e) not q = tt

pub returns-in-Ok-replies_of-clause-heard : goal.returns-in-Ok-replies_of-clause-heard
returns-in-Ok-replies_of-clause-heard c = λ x logs serves.
    let bytes = c.in-Ok-replies_of.replies in
    let one = c.in-Ok.ensures.accepts x serves logs.possible.printable (c.as_bytes.ensures ∙ logs.first_is) in
    let two = c.in-Ok-expected_final.ensures.accepts x one.1 in
    let first : c.as_bytes-2.result.now ≡ first_of x = c.as_bytes-2.ensures ∙ one.0.text_is in
    let last : c.as_bytes-3.result.now ≡ server_final_of x = c.as_bytes-3.ensures ∙ two.0 in
    record {
      replies = subst (λ t. AreReplies t (server_final_of x) bytes) first (subst (λ t. AreReplies c.as_bytes-2.result.now t bytes) last c.in-Ok-replies_of.ensures.replies);
      reads = subst (λ t. IsReadAs t x) one.0.text_is one.0;
      accepts = subst (Accepts x) two.0 two.1;
    }

-- its messages fit
pub returns-clause-heard : goal.returns-clause-heard
returns-clause-heard c = λ x logs serves.
    let one = c.in-Ok.ensures.accepts x serves logs.possible.printable (c.as_bytes.ensures ∙ logs.first_is) in
    let two = c.in-Ok-expected_final.ensures.accepts x one.1 in
    let first : c.as_bytes-2.result.now ≡ first_of x = c.as_bytes-2.ensures ∙ one.0.text_is in
    let last : c.as_bytes-3.result.now ≡ server_final_of x = c.as_bytes-3.ensures ∙ two.0 in
    never _ c.no_replies.result c.no_replies.ensures.too_long (c.in-Err-replies_of.ensures.short (subst (λ t. length t < 2 ^ 24) (sym first) (short_first x logs.possible)) (subst (λ t. length t < 2 ^ 24) (sym last) (short_final x)))

-- no replies are any server's
if_any : {A E : Type 0} (P : A → Type 0) (r : Result (Option A) E) → IfOk r (λ replies. replies ≡ None) → IfOk r (λ replies. IfSome replies P)
if_any P (Ok None) is = tt
if_any P (Ok (Some a)) is = absurd (not_none a is) where
  not_none : {A : Type 0} (a : A) → Some a ≡ None → ⊥
  not_none a is = cc
if_any P (Err e) is = tt

pub returns-clause-replies : goal.returns-clause-replies
returns-clause-replies c = if_any AreServerReplies c.no_replies.result c.no_replies.ensures.none
