use Rattle.std.proofs.Common.{refl}
use Rattle.mongo_bson.specs.Document.{fixed, boolean, string, document, binary, regular_expression, db_pointer, code_with_scope}
use Rattle.mongo_bson.proofs.ByKind.{of_kind}
use Rattle.mongo_bson.proofs.shape.value_len.Goals as goal

pub returns-in-1 : goal.returns-in-1
returns-in-1 c = of_kind c.args.kind 0x01 (fixed 8) c.args.bytes.now c.fixed_len.result c.in-1.is refl c.fixed_len.ensures

pub returns-in-2 : goal.returns-in-2
returns-in-2 c = of_kind c.args.kind 0x02 string c.args.bytes.now c.string_len.result c.in-2.is refl c.string_len.ensures

pub returns-in-3 : goal.returns-in-3
returns-in-3 c = of_kind c.args.kind 0x03 document c.args.bytes.now c.document_len.result c.in-3.is refl c.document_len.ensures

pub returns-in-4 : goal.returns-in-4
returns-in-4 c = of_kind c.args.kind 0x04 document c.args.bytes.now c.document_len-in-4.result c.in-4.is refl c.document_len-in-4.ensures

pub returns-in-5 : goal.returns-in-5
returns-in-5 c = of_kind c.args.kind 0x05 binary c.args.bytes.now c.binary_len.result c.in-5.is refl c.binary_len.ensures

pub returns-in-6 : goal.returns-in-6
returns-in-6 c = of_kind c.args.kind 0x06 (fixed 0) c.args.bytes.now c.fixed_len-in-6.result c.in-6.is refl c.fixed_len-in-6.ensures

pub returns-in-7 : goal.returns-in-7
returns-in-7 c = of_kind c.args.kind 0x07 (fixed 12) c.args.bytes.now c.fixed_len-in-7.result c.in-7.is refl c.fixed_len-in-7.ensures

pub returns-in-8 : goal.returns-in-8
returns-in-8 c = of_kind c.args.kind 0x08 boolean c.args.bytes.now c.boolean_len.result c.in-8.is refl c.boolean_len.ensures

pub returns-in-9 : goal.returns-in-9
returns-in-9 c = of_kind c.args.kind 0x09 (fixed 8) c.args.bytes.now c.fixed_len-in-9.result c.in-9.is refl c.fixed_len-in-9.ensures

pub returns-in-10 : goal.returns-in-10
returns-in-10 c = of_kind c.args.kind 0x0A (fixed 0) c.args.bytes.now c.fixed_len-in-10.result c.in-10.is refl c.fixed_len-in-10.ensures

pub returns-in-11 : goal.returns-in-11
returns-in-11 c = of_kind c.args.kind 0x0B regular_expression c.args.bytes.now c.regular_expression_len.result c.in-11.is refl c.regular_expression_len.ensures

pub returns-in-12 : goal.returns-in-12
returns-in-12 c = of_kind c.args.kind 0x0C db_pointer c.args.bytes.now c.db_pointer_len.result c.in-12.is refl c.db_pointer_len.ensures

pub returns-in-13 : goal.returns-in-13
returns-in-13 c = of_kind c.args.kind 0x0D string c.args.bytes.now c.string_len-in-13.result c.in-13.is refl c.string_len-in-13.ensures

pub returns-in-14 : goal.returns-in-14
returns-in-14 c = of_kind c.args.kind 0x0E string c.args.bytes.now c.string_len-in-14.result c.in-14.is refl c.string_len-in-14.ensures

pub returns-in-15 : goal.returns-in-15
returns-in-15 c = of_kind c.args.kind 0x0F code_with_scope c.args.bytes.now c.code_with_scope_len.result c.in-15.is refl c.code_with_scope_len.ensures

pub returns-in-16 : goal.returns-in-16
returns-in-16 c = of_kind c.args.kind 0x10 (fixed 4) c.args.bytes.now c.fixed_len-in-16.result c.in-16.is refl c.fixed_len-in-16.ensures

pub returns-in-17 : goal.returns-in-17
returns-in-17 c = of_kind c.args.kind 0x11 (fixed 8) c.args.bytes.now c.fixed_len-in-17.result c.in-17.is refl c.fixed_len-in-17.ensures

pub returns-in-18 : goal.returns-in-18
returns-in-18 c = of_kind c.args.kind 0x12 (fixed 8) c.args.bytes.now c.fixed_len-in-18.result c.in-18.is refl c.fixed_len-in-18.ensures

pub returns-in-19 : goal.returns-in-19
returns-in-19 c = of_kind c.args.kind 0x13 (fixed 16) c.args.bytes.now c.fixed_len-in-19.result c.in-19.is refl c.fixed_len-in-19.ensures

pub returns-in-127 : goal.returns-in-127
returns-in-127 c = of_kind c.args.kind 0x7F (fixed 0) c.args.bytes.now c.fixed_len-in-127.result c.in-127.is refl c.fixed_len-in-127.ensures

pub returns-in-255 : goal.returns-in-255
returns-in-255 c = of_kind c.args.kind 0xFF (fixed 0) c.args.bytes.now c.fixed_len-in-255.result c.in-255.is refl c.fixed_len-in-255.ensures
