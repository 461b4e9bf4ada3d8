-- The two blocks of a key stand for it.
use Rattle.std.proofs.Common.{◌≡◌, ℕ, List, refl}
use Rattle.mongo_mac.specs.Hi.{hi_of, hi_under}
use Rattle.mongo_mac.specs.Hmac.{hmac_of, mac_of, pads_of}

pub mac_of-pads_of : (h : List ℕ → List ℕ) (key text : List ℕ) →
    mac_of h (pads_of h key) text ≡ hmac_of h key text
unfolding hmac_of mac_of pads_of
mac_of-pads_of h key text = refl

pub hi_under-pads_of : (h : List ℕ → List ℕ) (str salt : List ℕ) (i : ℕ) →
    hi_under (mac_of h (pads_of h str)) salt i ≡ hi_of h str salt i
unfolding hi_of hmac_of mac_of pads_of
hi_under-pads_of h str salt i = refl
