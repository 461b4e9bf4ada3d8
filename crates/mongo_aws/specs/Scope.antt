-- What a signature holds for: a day, a region and a service (AWS Signature Version 4, "credential scope").
use Rattle.std.specs.Prelude.{ℕ, List, ◌++◌, codes}

-- the Security Token Service
abbrev pub service : List ℕ
service = codes "sts"

-- what each scope ends with
abbrev pub scope_end : List ℕ
scope_end = codes "aws4_request"

abbrev pub scope : List ℕ → List ℕ → List ℕ
scope day region = day ++ codes "/" ++ region ++ codes "/" ++ service ++ codes "/" ++ scope_end
