use Rattle.mongo_command.specs.Exchange.{frame_maximum}
use Rattle.mongo_scram.specs.Client.{user_of}
use Rattle.mongo_sasl.proofs.StopsBy.{draws_none}
use Rattle.mongo_scram.proofs.FirstRounds.{round_stops, start_stops, round_alone, start_alone, once_faultless, once_frames}
use Rattle.mongo_scram.proofs.login.ScramLogin.open.Goals as goal

pub returns-in-Some-clause-stops : goal.returns-in-Some-clause-stops
returns-in-Some-clause-stops g c = round_stops c.args.self c.args.first_round (frame_maximum c.args.connection.now.stream_description) (user_of c.args.user.now) _ c.go_on.result c.in-Some.round _ c.in-Some.is c.go_on.ensures.refused

pub returns-in-None-clause-stops : goal.returns-in-None-clause-stops
returns-in-None-clause-stops g c = start_stops c.args.self c.args.first_round (frame_maximum c.args.connection.now.stream_description) (user_of c.args.user.now) _ c.say_first.result _ _ c.in-None.is c.say_first.ensures.stops

pub returns-in-Some-clause-drawn : goal.returns-in-Some-clause-drawn
returns-in-Some-clause-drawn g c = draws_none _

pub returns-in-None-clause-drawn : goal.returns-in-None-clause-drawn
returns-in-None-clause-drawn g c = c.say_first.ensures.drawn

pub returns-in-Some-clause-alone : goal.returns-in-Some-clause-alone
returns-in-Some-clause-alone g c kind kept = round_alone c.args.self c.args.first_round (frame_maximum c.args.connection.now.stream_description) (user_of c.args.user.now) c.go_on.result c.in-Some.round c.in-Some.is

pub returns-in-None-clause-alone : goal.returns-in-None-clause-alone
returns-in-None-clause-alone g c kind kept = start_alone c.args.self c.args.first_round (frame_maximum c.args.connection.now.stream_description) (user_of c.args.user.now) c.say_first.result _ _ _ _ kind kept c.say_first.ensures.once

pub returns-in-None-clause-frames : goal.returns-in-None-clause-frames
returns-in-None-clause-frames g c = once_frames c.args.self c.args.first_round (frame_maximum c.args.connection.now.stream_description) (user_of c.args.user.now) c.say_first.result _ _ _ _ c.in-None.is c.say_first.ensures.once

pub returns-in-None-clause-faultless : goal.returns-in-None-clause-faultless
returns-in-None-clause-faultless g c faultless = once_faultless c.args.self c.args.first_round (frame_maximum c.args.connection.now.stream_description) (user_of c.args.user.now) c.say_first.result _ _ _ _ c.say_first.ensures.once
