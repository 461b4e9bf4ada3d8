use Rattle.std.proofs.Common.{rules, ◌≡◌, Some, sym, subst}
use Rattle.mongo_wire.specs.Header.{header_bytes, header_with, op_code_of, signed_at}
use Rattle.mongo_wire.proofs.HeaderBack.{header_back}
use Rattle.mongo_wire.proofs.header.Header.encode.Goals as goal

pub returns-clause-decoded : goal.returns-clause-decoded
returns-clause-decoded c =
    let h = c.args.self.now in
    let bytes : c.numbers_bytes.result ≡ header_bytes h = search rules in
    subst (λ b. (op_code_of (signed_at 12 b) ≡ Some h.op_code) × (header_with b h.op_code ≡ h)) (sym bytes) (header_back h (search rules) (search rules) (search rules))
