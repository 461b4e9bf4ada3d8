use Rattle.mongo_settings_tests.proofs.tests.reporting.reports.Given as goal

abbrev pub ghosts-rehearsed_with : goal.ghosts-rehearsed_with
ghosts-rehearsed_with a = record { name = a.blank.name; parts = a.blank.parts }
