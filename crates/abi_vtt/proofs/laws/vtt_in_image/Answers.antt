use Rattle.abi_vtt.proofs.ImageBlocks.{whole_block, base_block, shared_block}
use Rattle.abi_vtt.proofs.laws.vtt_in_image.Goals as goal

pub returns-clause-whole : goal.returns-clause-whole
returns-clause-whole c = λ h l codes groups vtts infos a base image d words has of vtt. whole_block h l codes groups vtts infos a base image has d words of vtt

pub returns-clause-base : goal.returns-clause-base
returns-clause-base c = λ h l placed e x d b v at keeps edge has there. base_block h l placed e x d b v at keeps edge has there

pub returns-clause-shared : goal.returns-clause-shared
returns-clause-shared c = λ h l codes groups vtts infos a base image d v w words has of vtt keeps virtual more. shared_block h l codes groups vtts infos a base image has d words of vtt v w keeps virtual more
