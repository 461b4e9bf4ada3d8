use Rattle.std.proofs.Common.{◌==◌, length, refl}
use Rattle.std.proofs.lemmas.Bool.Decides.{Decides-eqb}
use Rattle.mongo_bson.specs.Document.{fixed, boolean, string, document, binary, regular_expression, db_pointer, code_with_scope}
use Rattle.mongo_bson.proofs.ByKind.{test_of_kind}
use Rattle.mongo_bson_tests.proofs.tests.plain_reader.is_value.Goals as goal

pub returns-in-1 : goal.returns-in-1
returns-in-1 c = test_of_kind c.args.kind 0x01 (fixed 8) c.args.value.now (length c.args.value.now == 8) c.in-1.is refl (Decides-eqb (length c.args.value.now) 8)

pub returns-in-2 : goal.returns-in-2
returns-in-2 c = test_of_kind c.args.kind 0x02 string c.args.value.now c.is_string.result c.in-2.is refl c.is_string.ensures

pub returns-in-3 : goal.returns-in-3
returns-in-3 c = test_of_kind c.args.kind 0x03 document c.args.value.now c.is_frame.result c.in-3.is refl c.is_frame.ensures

pub returns-in-4 : goal.returns-in-4
returns-in-4 c = test_of_kind c.args.kind 0x04 document c.args.value.now c.is_frame-in-4.result c.in-4.is refl c.is_frame-in-4.ensures

pub returns-in-5 : goal.returns-in-5
returns-in-5 c = test_of_kind c.args.kind 0x05 binary c.args.value.now c.is_binary.result c.in-5.is refl c.is_binary.ensures

pub returns-in-6 : goal.returns-in-6
returns-in-6 c = test_of_kind c.args.kind 0x06 (fixed 0) c.args.value.now (length c.args.value.now == 0) c.in-6.is refl (Decides-eqb (length c.args.value.now) 0)

pub returns-in-7 : goal.returns-in-7
returns-in-7 c = test_of_kind c.args.kind 0x07 (fixed 12) c.args.value.now (length c.args.value.now == 12) c.in-7.is refl (Decides-eqb (length c.args.value.now) 12)

pub returns-in-8 : goal.returns-in-8
returns-in-8 c = test_of_kind c.args.kind 0x08 boolean c.args.value.now c.is_boolean.result c.in-8.is refl c.is_boolean.ensures

pub returns-in-9 : goal.returns-in-9
returns-in-9 c = test_of_kind c.args.kind 0x09 (fixed 8) c.args.value.now (length c.args.value.now == 8) c.in-9.is refl (Decides-eqb (length c.args.value.now) 8)

pub returns-in-10 : goal.returns-in-10
returns-in-10 c = test_of_kind c.args.kind 0x0A (fixed 0) c.args.value.now (length c.args.value.now == 0) c.in-10.is refl (Decides-eqb (length c.args.value.now) 0)

pub returns-in-11 : goal.returns-in-11
returns-in-11 c = test_of_kind c.args.kind 0x0B regular_expression c.args.value.now c.is_regular_expression.result c.in-11.is refl c.is_regular_expression.ensures

pub returns-in-12 : goal.returns-in-12
returns-in-12 c = test_of_kind c.args.kind 0x0C db_pointer c.args.value.now c.is_db_pointer.result c.in-12.is refl c.is_db_pointer.ensures

pub returns-in-13 : goal.returns-in-13
returns-in-13 c = test_of_kind c.args.kind 0x0D string c.args.value.now c.is_string-in-13.result c.in-13.is refl c.is_string-in-13.ensures

pub returns-in-14 : goal.returns-in-14
returns-in-14 c = test_of_kind c.args.kind 0x0E string c.args.value.now c.is_string-in-14.result c.in-14.is refl c.is_string-in-14.ensures

pub returns-in-15 : goal.returns-in-15
returns-in-15 c = test_of_kind c.args.kind 0x0F code_with_scope c.args.value.now c.is_code_with_scope.result c.in-15.is refl c.is_code_with_scope.ensures

pub returns-in-16 : goal.returns-in-16
returns-in-16 c = test_of_kind c.args.kind 0x10 (fixed 4) c.args.value.now (length c.args.value.now == 4) c.in-16.is refl (Decides-eqb (length c.args.value.now) 4)

pub returns-in-17 : goal.returns-in-17
returns-in-17 c = test_of_kind c.args.kind 0x11 (fixed 8) c.args.value.now (length c.args.value.now == 8) c.in-17.is refl (Decides-eqb (length c.args.value.now) 8)

pub returns-in-18 : goal.returns-in-18
returns-in-18 c = test_of_kind c.args.kind 0x12 (fixed 8) c.args.value.now (length c.args.value.now == 8) c.in-18.is refl (Decides-eqb (length c.args.value.now) 8)

pub returns-in-19 : goal.returns-in-19
returns-in-19 c = test_of_kind c.args.kind 0x13 (fixed 16) c.args.value.now (length c.args.value.now == 16) c.in-19.is refl (Decides-eqb (length c.args.value.now) 16)

pub returns-in-127 : goal.returns-in-127
returns-in-127 c = test_of_kind c.args.kind 0x7F (fixed 0) c.args.value.now (length c.args.value.now == 0) c.in-127.is refl (Decides-eqb (length c.args.value.now) 0)

pub returns-in-255 : goal.returns-in-255
returns-in-255 c = test_of_kind c.args.kind 0xFF (fixed 0) c.args.value.now (length c.args.value.now == 0) c.in-255.is refl (Decides-eqb (length c.args.value.now) 0)
