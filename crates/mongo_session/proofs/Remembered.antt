-- What a session remembers, as requests come.
use Rattle.std.proofs.Common.{◌≡◌, ℕ, Bool, true, false, Option, None, Some, IfSome, List, [], ◌∷◌, ◌++◌, refl, sym, ap, ◌∙◌, subst, append_assoc}
use Rattle.mongo_server.specs.Authentication.{Authentication, open_of, close_of}
use Rattle.mongo_session.specs.declared.start.StartedLogin.{StartedLogin}
use Rattle.mongo_session.specs.declared.request.StartRequest.{StartRequest}
use Rattle.mongo_session.specs.declared.session.PendingLogin.{PendingLogin}
use Rattle.mongo_session.specs.declared.session.Session.{Session}
use Rattle.mongo_session.specs.declared.serve_settings.ServeSettings.{ServeSettings}
use Rattle.mongo_session.specs.Requests.{BringsStart, StartsLogin, SaysSaslContinue}
use Rattle.mongo_session.specs.Login.{HasStarted, HasProved, HasLoggedIn, IsPendingLogin, Remembers}
use Rattle.mongo_session.specs.Started.{StartsBy}
use Rattle.mongo_session.proofs.Carried.{brings_login}

-- ---- one request more

pub started_later : (x : Authentication) (requests : List (List ℕ)) (d : List ℕ) → HasStarted x requests → HasStarted x (requests ++ d ∷ [])
started_later x requests d h = record {
  before = h.before;
  request = h.request;
  after = h.after ++ d ∷ [];
  split = ap (λ l. l ++ d ∷ []) h.split ∙ append_assoc h.before (h.request ∷ h.after) (d ∷ []);
  opens = h.opens;
}

pub started_now : (x : Authentication) (requests : List (List ℕ)) (d : List ℕ) → StartsLogin d x.version (open_of x) → HasStarted x (requests ++ d ∷ [])
started_now x requests d h = record { before = requests; request = d; after = []; split = refl; opens = h }

pub proved_later : (x : Authentication) (requests : List (List ℕ)) (d : List ℕ) → HasProved x requests → HasProved x (requests ++ d ∷ [])
proved_later x requests d h = record {
  before = h.before;
  request = h.request;
  after = h.after ++ d ∷ [];
  split = ap (λ l. l ++ d ∷ []) h.split ∙ append_assoc h.before (h.request ∷ h.after) (d ∷ []);
  opened = h.opened;
  closes = h.closes;
}

pub proved_now : (x : Authentication) (requests : List (List ℕ)) (d : List ℕ) → HasStarted x requests → SaysSaslContinue d (close_of x) → HasProved x (requests ++ d ∷ [])
proved_now x requests d h c = record { before = requests; request = d; after = []; split = refl; opened = h; closes = c }

logged_in_later : (settings : ServeSettings) (name : List ℕ) (requests : List (List ℕ)) (d : List ℕ) → HasLoggedIn settings name requests → HasLoggedIn settings name (requests ++ d ∷ [])
logged_in_later settings name requests d h = record { x = h.x; of_settings = h.of_settings; name_is = h.name_is; proved = proved_later h.x requests d h.proved }

pub user_later : (settings : ServeSettings) (user : Option (List ℕ)) (requests : List (List ℕ)) (d : List ℕ) → IfSome user (λ name. HasLoggedIn settings name requests)
    → IfSome user (λ name. HasLoggedIn settings name (requests ++ d ∷ []))
user_later settings None requests d h = tt
user_later settings (Some name) requests d h = logged_in_later settings name requests d h

pub login_later : (settings : ServeSettings) (login : Option PendingLogin) (requests : List (List ℕ)) (d : List ℕ) → IfSome login (IsPendingLogin settings requests)
    → IfSome login (IsPendingLogin settings (requests ++ d ∷ []))
login_later settings None requests d h = tt
login_later settings (Some login) requests d h = record {
  x = h.x;
  of_settings = h.of_settings;
  name_is = h.name_is;
  begun = h.begun;
  opened = started_later h.x requests d h.opened;
  proved = λ is. proved_later h.x requests d (h.proved is);
}

pub remembers_later : (settings : ServeSettings) (requests : List (List ℕ)) (d : List ℕ) (session : Session) → Remembers settings requests session → Remembers settings (requests ++ d ∷ []) session
remembers_later settings requests d session h = record { user = user_later settings session.user requests d h.user; login = login_later settings session.login requests d h.login }

-- no login goes on
pub remembers_alone : (settings : ServeSettings) (requests : List (List ℕ)) (d : List ℕ) (session : Session) → session.login ≡ None → IfSome session.user (λ name. HasLoggedIn settings name requests)
    → Remembers settings (requests ++ d ∷ []) session
remembers_alone settings requests d session none h = record { user = user_later settings session.user requests d h; login = subst (λ o. IfSome o (IsPendingLogin settings (requests ++ d ∷ []))) (sym none) tt }

-- ---- a login that begins

pub starts_with_start : (settings : ServeSettings) (requests : List (List ℕ)) (d : List ℕ) (start : StartRequest) (opened : StartedLogin) → StartsBy settings start (Some opened) → BringsStart d start
    → IsPendingLogin settings (requests ++ d ∷ []) opened.login
starts_with_start settings requests d start opened (x, asked, begins) brings = record {
  x = x;
  of_settings = asked.of_settings;
  name_is = begins.begun.name_is;
  begun = begins.begun.begun;
  opened = started_now x requests d (brings_login d start brings x.version (open_of x) asked.version_is asked.said);
  proved = λ is. absurd (differ begins.begun.unproved is);
}
  where
    differ : {b : Bool} → b ≡ false → b ≡ true → ⊥
    differ p q = cc

-- ---- a login that ends

-- the client's last message proves the key, and the user is logged in
pub logged_in_now : (settings : ServeSettings) (requests : List (List ℕ)) (d : List ℕ) (login : PendingLogin) → (h : IsPendingLogin settings requests login) → SaysSaslContinue d (close_of h.x) → HasLoggedIn settings login.name (requests ++ d ∷ [])
logged_in_now settings requests d login h c = record { x = h.x; of_settings = h.of_settings; name_is = h.name_is; proved = proved_now h.x requests d h.opened c }

-- the key was proved before
pub logged_in_before : (settings : ServeSettings) (requests : List (List ℕ)) (d : List ℕ) (login : PendingLogin) → IsPendingLogin settings requests login → login.is_proved ≡ true → HasLoggedIn settings login.name (requests ++ d ∷ [])
logged_in_before settings requests d login h is = record { x = h.x; of_settings = h.of_settings; name_is = h.name_is; proved = proved_later h.x requests d (h.proved is) }
