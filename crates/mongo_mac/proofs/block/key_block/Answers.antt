use Rattle.std.proofs.Common.{rules}
use Rattle.mongo_mac.specs.Hmac.{key_block, short_key}
use Rattle.mongo_mac.proofs.block.key_block.Goals as goal

pub returns-then-key-gt-BLOCK_LEN : goal.returns-then-key-gt-BLOCK_LEN
unfolding key_block short_key
returns-then-key-gt-BLOCK_LEN g c = search rules

pub returns-else-key-gt-BLOCK_LEN : goal.returns-else-key-gt-BLOCK_LEN
unfolding key_block short_key
returns-else-key-gt-BLOCK_LEN g c = search rules
