use Rattle.std.proofs.Common.{ℕ, Option, List, subst, rules}
use Rattle.std.proofs.lemmas.Result.{err_from_is_err_and}
use Rattle.serde_json.specs.Data.{Data}
use Rattle.serde_json.specs.Find.{as_str}
use Rattle.serde_json.specs.View.{view}
use Rattle.mongo_meta.specs.declared.driver_info.DriverInfo.{DriverInfo}
use Rattle.mongo_meta.specs.declared.environment.Environment.{Environment}
use Rattle.mongo_meta.specs.declared.os_metadata.OsMetadata.{OsMetadata}
use Rattle.mongo_settings.specs.Keys.{platform_setting_key, platform_short_key, app_name_key, driver_info_key, os_setting_key}
use Rattle.mongo_settings.specs.Kinds.{Means, optional, or_absent}
use Rattle.mongo_meta.specs.Options.{default_os, default_platform, default_platform_short}
use Rattle.mongo_settings.specs.Options.{client_options_in, environment_in, driver_info_in, os_in}
use Rattle.mongo_settings.proofs.Parts.{paired, both_mean, paired_parts, six_nothing}
use Rattle.mongo_settings.proofs.settings.options.ClientOptionsSettingValue.read.Goals as goal

-- the parts that own memory, two by two
abbrev platform_of : Data → Option (List ℕ)
platform_of d = or_absent default_platform (optional platform_setting_key as_str d)

abbrev platform_short_of : Data → Option (List ℕ)
platform_short_of d = or_absent default_platform_short (optional platform_short_key as_str d)

abbrev platforms_of : Data → Option (List ℕ × List ℕ)
platforms_of d = paired (platform_of d) (platform_short_of d)

abbrev app_name_of : Data → Option (Option (List ℕ))
app_name_of d = optional app_name_key as_str d

abbrev client_of : Data → Option (Environment × Option (List ℕ))
client_of d = paired (environment_in d) (app_name_of d)

abbrev driver_info_of : Data → Option (Option DriverInfo)
driver_info_of d = optional driver_info_key driver_info_in d

abbrev os_of : Data → Option OsMetadata
os_of d = or_absent default_os (optional os_setting_key os_in d)

abbrev library_of : Data → Option (Option DriverInfo × OsMetadata)
library_of d = paired (driver_info_of d) (os_of d)

pub returns-in_err-texts : goal.returns-in_err-texts
unfolding client_options_in
returns-in_err-texts c =
    let platforms = both_mean (platform_of (view c.args.value.now)) (platform_short_of (view c.args.value.now)) _ _ c.both-platforms.result c.both-platforms.ensures.values c.both-platforms.ensures.fault c.text_or.ensures c.text_or-2.ensures in
    let client = both_mean (environment_in (view c.args.value.now)) (app_name_of (view c.args.value.now)) _ _ c.both-client.result c.both-client.ensures.values c.both-client.ensures.fault c.read.ensures c.optional-2.ensures in
    let library = both_mean (driver_info_of (view c.args.value.now)) (os_of (view c.args.value.now)) _ _ c.both-library.result c.both-library.ensures.values c.both-library.ensures.fault c.optional-3.ensures c.os_or_default.ensures in
    let texts = both_mean (platforms_of (view c.args.value.now)) (client_of (view c.args.value.now)) _ _ c.both.result c.both.ensures.values c.both.ensures.fault platforms client in
    let all = both_mean (paired (platforms_of (view c.args.value.now)) (client_of (view c.args.value.now))) (library_of (view c.args.value.now)) _ _ c.both-2.result c.both-2.ensures.values c.both-2.ensures.fault texts library in
    let p = err_from_is_err_and c.from_residual-in_err-texts.result c.from_residual-in_err-texts.ensures.1 in
    let nothing = subst (λ r. Means (λ v. v) r (paired (paired (platforms_of (view c.args.value.now)) (client_of (view c.args.value.now))) (library_of (view c.args.value.now)))) c.in_err-texts.was all in
    rw (p.1, p.2, c.in_ok-server_api.ensures, c.in_ok-load_balanced.ensures)
    (six_nothing c.in_err-texts.field-0.0 (platform_of (view c.args.value.now)) (platform_short_of (view c.args.value.now)) (environment_in (view c.args.value.now)) (app_name_of (view c.args.value.now)) (driver_info_of (view c.args.value.now)) (os_of (view c.args.value.now)) _ nothing)

pub returns : goal.returns
unfolding client_options_in
returns c =
    let platforms = both_mean (platform_of (view c.args.value.now)) (platform_short_of (view c.args.value.now)) _ _ c.both-platforms.result c.both-platforms.ensures.values c.both-platforms.ensures.fault c.text_or.ensures c.text_or-2.ensures in
    let client = both_mean (environment_in (view c.args.value.now)) (app_name_of (view c.args.value.now)) _ _ c.both-client.result c.both-client.ensures.values c.both-client.ensures.fault c.read.ensures c.optional-2.ensures in
    let library = both_mean (driver_info_of (view c.args.value.now)) (os_of (view c.args.value.now)) _ _ c.both-library.result c.both-library.ensures.values c.both-library.ensures.fault c.optional-3.ensures c.os_or_default.ensures in
    let texts = both_mean (platforms_of (view c.args.value.now)) (client_of (view c.args.value.now)) _ _ c.both.result c.both.ensures.values c.both.ensures.fault platforms client in
    let two = paired_parts (platforms_of (view c.args.value.now)) (client_of (view c.args.value.now)) c.in_ok-texts.texts (subst (λ r. Means (λ v. v) r (paired (platforms_of (view c.args.value.now)) (client_of (view c.args.value.now)))) c.in_ok-texts.ensures.values.0 texts) in
    let of_platforms = paired_parts (platform_of (view c.args.value.now)) (platform_short_of (view c.args.value.now)) c.in_ok-texts.texts.0 two.0 in
    let of_client = paired_parts (environment_in (view c.args.value.now)) (app_name_of (view c.args.value.now)) c.in_ok-texts.texts.1 two.1 in
    let of_library = paired_parts (driver_info_of (view c.args.value.now)) (os_of (view c.args.value.now)) (c.in_ok-texts.driver_info, c.in_ok-texts.os) (subst (λ r. Means (λ v. v) r (library_of (view c.args.value.now))) c.in_ok-texts.ensures.values.1 library) in
    rw (c.in_ok-server_api.ensures, c.in_ok-load_balanced.ensures, of_platforms.0, of_platforms.1, of_client.0, of_client.1, of_library.0, of_library.1) (search rules)
