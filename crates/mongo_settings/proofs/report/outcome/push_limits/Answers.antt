-- The three sizes are handed on as they are held: each fits its type.
use Rattle.std.proofs.Common.{rules, ◌≡◌, ◌++◌, List, ℕ, ℤ, FitsSigned, ap, ◌∙◌, append_assoc}
use Rattle.std.specs.Int.{w32, w64}
use Rattle.std.proofs.lemmas.Int.{to_z-of_z}
use Rattle.std.proofs.lemmas.Result.{IfOk-weaker}
use Rattle.mongo_settings.specs.Report.{sizes_line}
use Rattle.mongo_settings.proofs.report.outcome.push_limits.Goals as goal

three : (old one two all a b c : List ℕ) → one ≡ old ++ a → two ≡ one ++ b → all ≡ two ++ c → all ≡ old ++ (a ++ (b ++ c))
three old one two all a b c p q r = r ∙ ap (λ l. l ++ c) (q ∙ ap (λ l. l ++ b) p) ∙ append_assoc (old ++ a) b c ∙ append_assoc old a (b ++ c)

sizes : (a b c a' b' c' : ℤ) → a ≡ a' → b ≡ b' → c ≡ c' → sizes_line a b c ≡ sizes_line a' b' c'
sizes a b c a' b' c' p q r = ap (λ z. sizes_line z b c) p ∙ ap (λ z. sizes_line a' z c) q ∙ ap (λ z. sizes_line a' b' z) r

pub returns : goal.returns
returns c =
    let d = c.args.description.now in
    let object : FitsSigned w64 d.max_bson_object_size = search rules in
    let batch : FitsSigned w64 d.max_write_batch_size = search rules in
    let frame : FitsSigned w32 d.max_message_size_bytes = search rules in
    let same = sizes _ _ _ d.max_bson_object_size d.max_write_batch_size d.max_message_size_bytes (to_z-of_z w64 d.max_bson_object_size object) (to_z-of_z w64 d.max_write_batch_size batch) (to_z-of_z w32 d.max_message_size_bytes frame) in
    IfOk-weaker c.push_service.result _ _ (λ done e. three c.args.out.now.items _ _ _ _ _ _ (c.in_ok-push_sizes.ensures ∙ ap (λ l. c.args.out.now.items ++ l) same) c.in_ok-push_hello_ok.ensures e) c.push_service.ensures
